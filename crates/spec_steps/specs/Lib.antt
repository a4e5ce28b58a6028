-- The promise.
pub mod Steps
pub mod Lines
pub mod Words
pub mod Schedule
pub mod Answers
