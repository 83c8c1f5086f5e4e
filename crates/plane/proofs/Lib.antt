pub mod Copied
pub mod Front
pub mod Inside
pub mod Moved
pub mod Ready
pub mod ReadySource
pub mod Rows
