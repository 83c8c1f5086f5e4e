pub mod Averages
pub mod Grids
pub mod Whole
