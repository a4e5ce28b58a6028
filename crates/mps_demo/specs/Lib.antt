-- The promise: what `demo` comes to, and the image and the wells that it draws.
pub mod Outcome
pub mod Inputs
pub mod Image
pub mod Wells
pub mod Drawn
