-- both ends of a line
pub mod Lines
-- what is read
pub mod Reads
