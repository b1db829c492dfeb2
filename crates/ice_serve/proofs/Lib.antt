-- what is asked of the flash and the runner
pub mod Both
-- what is carried out of a session
pub mod Carrying
-- takes of a chunk, joined
pub mod Taking
-- the notes so far
pub mod Noting
-- what a note does, by the parts of it
pub mod Telling
-- what is kept, and what stays behind a call
pub mod Kept
-- what one step does
pub mod Stepping
-- the line ends, and the run that is out does
pub mod Halting
-- steps within a chunk, joined
pub mod Chunking
-- what goes on, joined
pub mod Going
-- what each note comes to
pub mod ChunkNotes
pub mod HaltNotes
-- the notes so far, with what was written
pub mod NotesSoFar
-- a session to its end
pub mod Finishing
-- with the line on a thread
pub mod Serving
