-- The promise.
pub mod Nearest
pub mod Points
pub mod Start
-- What its proofs need.
pub mod Kept
