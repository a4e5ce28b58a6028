-- The promise: the file and the report of a run.
pub mod Outcome
pub mod Putting
pub mod Texts
