pub mod Cells
pub mod Covered
pub mod Short
pub mod Cover
pub mod Levels
