pub mod Zero
pub mod Pattern
pub mod Count
