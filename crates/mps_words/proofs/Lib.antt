-- A word as `clap` sees it.
pub mod Looks
-- How the walk of `clap` goes through the parts of the words.
pub mod Walking
-- What that comes to for each command.
pub mod Reading
