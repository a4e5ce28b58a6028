-- The promise.
pub mod Template
pub mod Radii
-- What its proofs need.
pub mod Keys
