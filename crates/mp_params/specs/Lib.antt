-- What is promised of parameters: the table of keys, the lines of a file, what a file says, and the text of
-- parameters.
pub mod Table
pub mod Lines
pub mod Params
pub mod Reading
pub mod Printing
-- What is promised of values.
pub use Rattle.mp_values.specs.Values
pub use Rattle.mp_values.specs.Forms
pub use Rattle.mp_values.specs.Texts
-- How the program keeps parameters, and what it knows of settings.
pub mod View
pub mod Whole
