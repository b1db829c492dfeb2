-- for which states a core stands, and what its methods do to them
pub mod Stands
pub mod Leaves
-- how a step begins
pub mod Begins
-- what a step answers
pub mod Answer
