-- the bytes of the line that are still to come
pub mod Coming
-- what the bytes of frames come to
pub mod Counting
pub mod Told
-- what comes of making a session
pub mod Making
