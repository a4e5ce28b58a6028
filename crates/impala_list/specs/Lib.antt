-- The promise: what a list answers, and how many entries it has.
pub mod List
-- What its proofs need: the keys of positions, their places among the distinct ones, and counts by groups.
pub mod Ranking
pub mod Keys
pub mod Parts
