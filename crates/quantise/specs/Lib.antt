-- To be believed.
pub mod Level
pub mod Block
pub mod Near
-- Told.
pub mod Told
