-- To be believed.
pub mod Luma
pub mod Macroblock
pub mod Chroma
pub mod Planes
pub mod Prediction
-- Told.
pub mod ToldFour
