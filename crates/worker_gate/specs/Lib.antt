-- What its proofs need.
pub mod Parts
