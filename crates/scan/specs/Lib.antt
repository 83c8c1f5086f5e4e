-- To be believed.
pub mod Event
pub mod Grid
pub mod Read
pub mod Reply
-- Told.
pub mod Told
