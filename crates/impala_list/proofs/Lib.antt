mod Ranks
mod Deepening
mod BlockSums
mod GroupParts
mod PartSums
