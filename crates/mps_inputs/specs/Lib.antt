-- The promise: what a command's inputs come to, the faults with their lines and statuses, and what an answer says.
pub mod Inputs
pub mod Setup
pub mod Stores
pub mod Status
pub mod Lines
pub mod Done
pub mod Answers
pub mod Files
-- What helps to say it.
pub mod Judged
pub mod Tables
