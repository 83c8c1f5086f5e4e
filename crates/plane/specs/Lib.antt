pub mod Plane
pub mod Corner
pub mod Reference
pub mod Samples
pub mod Source
pub mod ToldHeld
pub mod ToldRows
pub mod ToldLent
