pub mod Places
pub mod Replies
pub mod Steps
pub mod Sequences
