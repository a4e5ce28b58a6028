-- The promise.
pub mod Worker
pub mod World
pub mod Run
