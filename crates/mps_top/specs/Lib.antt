-- The promise: what a command comes to.
pub mod Outcome
pub mod Texts
