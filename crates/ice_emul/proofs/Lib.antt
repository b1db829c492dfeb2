-- what is asked of a flash
pub mod Asking
pub mod Home
-- a frame is heard
pub mod HeardFrames
-- a launch is answered
pub mod Launched
-- pages that are programmed, one by one, and what is said of it
pub mod PageProgramming
pub mod ProgrammingTold
pub mod Begun
-- the end of the line
pub mod LineEnds
-- the end of a run
pub mod Halting
-- one take of bytes
pub mod TakingBytes
