-- What is promised of texts and values.
pub mod Values
pub mod Forms
pub mod Texts
