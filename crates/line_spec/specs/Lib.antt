-- frames, and how a stream is cut into them
pub mod Check
pub mod Frames
pub mod Cut
-- what a frame says, and what is heard of it
pub mod Messages
pub mod Hearing
pub mod HearingLaws
-- the parameters of the tool
pub mod Parameters
-- values worked by hand
pub mod Examples
