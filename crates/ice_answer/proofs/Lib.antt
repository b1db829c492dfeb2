-- one change of a debugger behind another
pub mod Doing
-- breakpoints
pub mod Breaking
-- parameters
pub mod ParameterWrites
-- requests
pub mod Requests
-- bytes that are read and stored, one by one, and writes of memories
pub mod MemoryBytes
pub mod MemoryWrites
-- words of pages that are made of bytes
pub mod PageWords
-- what a receiver is fed
pub mod Fed
