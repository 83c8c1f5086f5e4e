-- To be believed.
pub mod Double
pub mod Cosine
pub mod Line
pub mod Rounding
pub mod Block
pub mod Reply
-- Told.
pub mod Told
