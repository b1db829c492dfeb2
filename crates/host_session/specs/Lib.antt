-- what a host is to its caller, and what its link tells
pub mod Standing
pub mod Words
-- what is heard among the bytes that come, and how a frame is awaited
pub mod Hearing
pub mod Awaiting
-- the memory of a host
pub mod Rooms
-- what the calls answer
pub mod Calls
-- one receive, and one frame, of those that make up a call
pub mod Arriving
pub mod Heard
