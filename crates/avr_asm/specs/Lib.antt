-- what the code's tables and texts stand for
pub mod Told
pub mod Statements
pub mod Meanings
pub mod Orders
pub mod Readings
-- what the lines lay out, and its words
pub mod Cuts
pub mod Encodings
pub mod Sheets
pub mod Settled
-- the answers, and those of a source
pub mod Answers
pub mod Streams
