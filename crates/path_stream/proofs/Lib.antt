pub mod Paths
pub mod Rows
pub mod Slots
pub mod Streams
