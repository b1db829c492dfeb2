-- lists of bytes
pub mod ByteLists
-- a text is one line at most
pub mod OneLines
-- lines lead one way
pub mod Ways
-- what holds at each point that lines reach, and how a record goes on from there
pub mod Asking
pub mod Reached
pub mod Closing
-- the records worked by hand
pub mod RecordRows
