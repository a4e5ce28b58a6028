-- The promise.
pub mod Words
pub mod Path
pub mod Ranks
