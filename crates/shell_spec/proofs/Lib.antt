-- the lines of a text
pub mod Cuttings
-- listings, and the lines of a stream worked by hand
pub mod Listings
pub mod Streams
pub mod Made
-- scripts and their transcripts
pub mod Texts
pub mod Scripts
pub mod RequestsAlike
pub mod ScriptsAlike
