-- The promise.
pub mod Plan
pub mod Refusal
pub mod Retrieval
pub mod Sequential
pub mod Offer
pub mod Gather
-- What its proofs need.
pub mod Around
