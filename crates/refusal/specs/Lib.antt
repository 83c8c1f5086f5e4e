pub mod Bounds
pub mod Number
pub mod Reply
pub mod Test
