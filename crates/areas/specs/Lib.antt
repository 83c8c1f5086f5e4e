pub mod Numbers
pub mod Run
pub mod Search
pub mod Whole
