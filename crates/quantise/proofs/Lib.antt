-- Laws that several proofs cite.
mod Reciprocal
mod Signs
mod Storing
-- And what the crates above cite.
pub mod Accepted
pub mod Near
pub mod Ranges
