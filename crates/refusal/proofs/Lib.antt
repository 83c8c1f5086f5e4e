pub mod Every
pub mod Others
pub mod Product
pub mod Replies
pub mod Tests
