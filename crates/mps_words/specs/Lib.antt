-- The promise: which words are a command, and which one.
pub mod Words
-- What helps to say it: the commands of `clap`, and what they find.
pub mod Forms
