pub mod Levels
pub mod Schedules
