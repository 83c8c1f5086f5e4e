pub mod Parts
pub mod Cut
pub mod Signed
pub mod Division
pub mod Lists
pub mod Least
pub mod Sums
