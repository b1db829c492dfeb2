-- the words of a line, and what each may be
pub mod Words
pub mod Operands
-- what a line says
pub mod Lines
pub mod Table
pub mod Reading
-- the lines of a text
pub mod Text
-- the command that a line sends, and what is printed
pub mod Sends
pub mod Printed
-- the listing of a stream of frames
pub mod Listing
-- commands in frames, the summary of a session, and the made session
pub mod Sent
pub mod Summary
pub mod Generator
-- scripts, and what is printed of them
pub mod Script
pub mod Transcript
pub mod ScriptLaws
pub mod CleanScripts
-- scripts worked by hand
pub mod Examples
