pub mod Accepted
pub mod AreaLengths
pub mod Grids
pub mod ReadBack
pub mod Writing
