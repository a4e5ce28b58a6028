pub mod Naming
pub mod Serving
pub mod Known
pub mod Outcomes
