-- Laws that several proofs cite.
mod Cuts
mod Limits
mod Lines
mod Signs
mod Whole
mod Wholes
-- And what the crates above cite.
pub mod Ranges
pub mod Ready
