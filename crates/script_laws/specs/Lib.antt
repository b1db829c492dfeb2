-- frames that wait on a link, and the events that a host has kept of them
pub mod Waiting
-- what one request is answered
pub mod Answers
-- a host that follows a script
pub mod Following
