-- The promise: what `replay` comes to, and its trace.
pub mod Outcome
pub mod Trace
-- What helps to say it.
pub mod Judged
