pub mod Stepping
mod Multiples
mod Grids
mod Loops
