-- where the device makes all that is asked for
pub mod Good
-- what is done there, put together
pub mod DoingWell
-- runs
pub mod RunningOn
pub mod RunsTo
-- pages
pub mod Pages
-- frames
pub mod HearingWell
pub mod Ready
-- one take of bytes
pub mod TakesBytes
pub mod Following
pub mod Ending
pub mod Followed
pub mod Happened
pub mod Halted
pub mod Begun
-- texts of lines
pub mod Texts
-- what is said of a text
pub mod Judged
