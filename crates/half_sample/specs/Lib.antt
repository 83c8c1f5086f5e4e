pub mod Split
pub mod Average
pub mod Block
pub mod Ring
pub mod ToldRows
pub mod ToldShifted
