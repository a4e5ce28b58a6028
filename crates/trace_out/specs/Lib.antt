-- The promise.
pub mod Answers
pub mod Trace
