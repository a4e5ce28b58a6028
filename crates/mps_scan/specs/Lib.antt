-- The promise: the words of `scan`, and what it comes to.
pub mod Words
pub mod Outcome
pub mod Scanning
pub mod Text
-- What helps to say it.
pub mod Coded
