-- What is promised of tables.
pub mod Table
pub mod Rows
pub mod Reader
-- How the program takes a table line by line.
pub mod Steps
-- How its rows are held.
pub mod Held
