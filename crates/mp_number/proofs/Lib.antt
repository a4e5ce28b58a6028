pub mod Digits
pub mod Sizes
pub mod Values
pub mod ReadBack
