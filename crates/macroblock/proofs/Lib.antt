-- What the crates above cite.
pub mod Placed
pub mod Demanded
pub mod PredictedDemanded
-- And laws that several proofs here cite.
mod Accepted
mod Answers
mod PredictedAccepted
mod Sums
