-- The promise: the patterns that a store answers by, and how many distinct ones an image shows.
pub mod Patterns
pub mod Prefixes
-- A law that each store keeps, with its proof, which the stores cite.
pub mod Falling
-- What the proofs need: what an image shows, and what a store keeps of it.
pub mod Levels
pub mod Slots
pub mod Building
pub mod Store
-- Tallies of an event, and what follows from them.
pub mod Gains
pub mod Holding
pub mod Longest
