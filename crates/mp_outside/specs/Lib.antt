-- What files and sinks promise.
pub mod Seen
pub mod Contents
pub mod Causes
-- What the files and sinks of this crate are, by which they keep these promises.
pub mod Memory
pub mod NoFault
pub mod Host
pub mod Calls
