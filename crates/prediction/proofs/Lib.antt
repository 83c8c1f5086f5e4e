-- What the crates above cite.
pub mod LumaAt
pub mod PredictionReady
pub mod Ready
pub mod Whole
-- And laws that several proofs here cite.
mod ChromaRange
mod Sizes
mod Weave
