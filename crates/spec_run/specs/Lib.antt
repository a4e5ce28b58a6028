-- The promise.
pub mod Bench
pub mod Told
-- What its proofs need.
pub mod Found
