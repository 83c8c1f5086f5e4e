pub mod Split
pub mod Filter
pub mod Places
pub mod Block
pub mod ToldPasses
