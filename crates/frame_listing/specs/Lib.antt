-- how a listing ends
pub mod Endings
-- what is listed on the way
pub mod Steps
