-- What is promised of lines and fields.
pub mod Lines
pub mod Fields
-- One step after another, for the definitions of the crates above.
pub mod Chain
