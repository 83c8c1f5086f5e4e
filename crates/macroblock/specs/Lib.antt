-- To be believed.
pub mod Request
pub mod Answer
pub mod Demand
pub mod Predicted
pub mod Activities
-- Told.
pub mod Told
