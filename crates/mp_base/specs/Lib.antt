-- What is promised of shapes, grids and counts.
pub mod Grid
pub mod Counts
pub mod Cells
-- What is promised of numbers as text.
pub use Rattle.mp_number.specs.Number
pub use Rattle.mp_number.specs.Spaced
