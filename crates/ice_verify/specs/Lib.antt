-- what the code keeps
pub mod Kept
-- what a line that was read tells
pub mod Told
-- how a part of the code is said to do what the book does, where the device makes all that is asked for
pub mod Well
-- what it is at any moment, and the runs that it makes
pub mod Standing
pub mod Going
-- what a verifier does with a line
pub mod Checking
