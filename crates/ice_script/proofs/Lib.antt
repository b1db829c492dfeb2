-- what waits behind a piece
pub mod Answered
-- the bytes of one frame
pub mod OneFrame
-- ways of a wire
pub mod Ways
-- what is sent for a command
pub mod Answering
-- what is left of a wire
pub mod Leavings
-- how many bytes a script sends
pub mod Spending
-- a script that was run
pub mod Running
-- what is left of it
pub mod Finishing
