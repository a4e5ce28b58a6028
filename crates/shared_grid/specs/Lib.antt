-- The promise.
pub mod Names
pub mod Rule
pub mod Reads
-- What its proofs need.
pub mod Unnamed
pub mod Steps
