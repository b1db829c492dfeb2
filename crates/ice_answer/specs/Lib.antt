-- what the code's values stand for
pub mod Values
-- what is kept of the book's debugger, and how a part of the code is said to do what the book does
pub mod Kept
pub mod Tools
pub mod Does
-- requests that ask for a stop
pub mod Stopping
-- reads and writes of memories
pub mod Accesses
-- what a receiver is fed until a frame waits
pub mod Feeding
