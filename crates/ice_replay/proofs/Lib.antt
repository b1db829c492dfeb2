-- what a replay keeps is settled, and its steps are joined
pub mod Going
-- a take that launches and ends nothing
pub mod Quiet
-- a run that is launched
pub mod Starting
-- a take that launches a run
pub mod Launching
-- the end that is taken
pub mod Ending
-- a step with which a run ends
pub mod Halted
-- what one step does
pub mod Stepping
-- the line's end
pub mod LineEnding
-- what is written
pub mod Writing
-- steps within a chunk
pub mod Chunking
-- the line of a session ends
pub mod Closing
-- the line is read chunk by chunk
pub mod Reading
-- what was read so far, and how it ends
pub mod Takings
-- what is left of a replay
pub mod Finishing
