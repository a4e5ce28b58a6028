-- The promise.
pub mod Rising
pub mod Event
pub mod Eroded
pub mod Prefix
-- A law that a store keeps, with its proof, which the store cites.
pub mod Growing
-- What the proofs of erosion and scanning need.
pub mod Marks
pub mod Window
