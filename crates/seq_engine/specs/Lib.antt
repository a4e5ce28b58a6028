-- The promise.
pub mod Setup
pub mod Realisation
pub mod Errors
pub mod Runs
pub mod Store
-- What its proofs need.
pub mod Kept
