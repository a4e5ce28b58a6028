-- The promise.
pub mod Levels
-- What its proofs need.
pub mod Rows
