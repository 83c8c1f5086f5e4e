pub mod Decimal
pub mod Header
pub mod Line
pub mod Planes
pub mod Text
pub mod ToldPush
