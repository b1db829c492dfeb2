-- what a plan keeps
pub mod State
pub mod Setting
-- what it asks of a flash
pub mod Asking
