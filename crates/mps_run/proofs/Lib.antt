pub mod Fronts
pub mod Through
pub mod PutTexts
pub mod Written
pub mod Outcomes
