mod Halves
mod FirstNearest
mod Places
mod KeptRows
mod KeptCells
mod Nodes
pub mod Known
