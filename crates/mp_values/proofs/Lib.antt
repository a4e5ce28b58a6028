pub mod Gathered
pub mod NameBytes
pub mod ValueTexts
pub mod Spaced
pub mod Back
