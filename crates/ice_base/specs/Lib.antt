-- counts of faults, and calls that are to fail
pub mod Counts
pub mod Failing
-- a flash's journal
pub mod Journal
-- the forms in memory
pub mod MemSource
pub mod MemSink
pub mod MemLink
pub mod MapLoader
pub mod MemFlash
pub mod Spawning
pub mod Tickets
