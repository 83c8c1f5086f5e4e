pub mod Call
pub mod Same
