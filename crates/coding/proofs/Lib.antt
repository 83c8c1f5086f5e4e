-- What the crates above cite.
pub mod Accepted
pub mod Levels
pub mod Nearness
pub mod SixBlocks
-- And laws that several proofs here cite.
mod Bits
mod BlockCoding
mod Differences
mod Filling
