pub mod Fitting
pub mod Naming
pub mod Placing
pub mod Runs
