-- the lines of texts, and the record that they are
pub mod Passing
-- bytes taken one by one
pub mod Taken
-- and chunk by chunk
pub mod Reading
-- no other answer is found
pub mod LineEnds
pub mod OneAnswers
