-- streams of whole frames
pub mod Streams
-- what one request is answered
pub mod Replies
-- what the calls of a host come to
pub mod Hosting
-- replies and events as frames
pub mod Valid
-- a host that follows a script
pub mod Follows
-- what lines do over a link
pub mod Lines
