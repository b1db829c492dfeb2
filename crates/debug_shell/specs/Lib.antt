-- what the code's lines and words stand for
pub mod Said
pub mod Rests
-- what is printed where the host has no answer
pub mod Failing
-- what a line does, and how a script ends
pub mod Transcript
pub mod Printing
pub mod Endings
-- one read of the source, and some bytes of it
pub mod Reads
pub mod Steps
