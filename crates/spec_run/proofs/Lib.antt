pub mod Numbers
pub mod Settling
pub mod Draining
pub mod Telling
pub mod Showing
pub mod Finding
pub mod Vetted
