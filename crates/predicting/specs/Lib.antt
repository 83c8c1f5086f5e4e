pub mod Mode
pub mod Luma
pub mod Chroma
pub mod Samples
