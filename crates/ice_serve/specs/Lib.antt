-- the flash and the runner, moved by what was asked of both
pub mod Outside
pub mod Carrying
-- why a session ends, as its notes tell
pub mod Causes
-- what is kept between two notes
pub mod Keeping
-- one step
pub mod Steps
-- a chunk, taken take by take
pub mod Pieces
pub mod Chunks
-- one note
pub mod Notes
pub mod Inbox
-- all notes of a session
pub mod Schedules
-- how a session ends
pub mod Endings
-- a session that is served
pub mod Serving
