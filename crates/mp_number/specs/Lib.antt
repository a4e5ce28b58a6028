-- What is promised of numbers that are read and printed.
pub mod Number
pub mod Spaced
