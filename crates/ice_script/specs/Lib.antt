-- the queue of a link in memory
pub mod Queue
-- the link, and what is left of it
pub mod Wires
pub mod Leaving
-- how a script ends
pub mod Ends
-- a script over an emulator
pub mod Scripts
