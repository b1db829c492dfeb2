-- what a replay keeps between two steps, and how it goes on
pub mod Keeping
pub mod Steps
-- what is written, and what a replay makes of a session
pub mod Lines
pub mod Replaying
-- what came of a chunk
pub mod Chunks
-- how a replay ends
pub mod Endings
