pub mod CodedLemmas
pub mod Parts
pub mod Fitting
pub mod TextLemmas
pub mod Scanning
