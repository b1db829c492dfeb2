-- the words
pub mod Stops
pub mod Words
pub mod Calls
-- what is outside, and the notes
pub mod Outside
pub mod Notes
-- how each command ends, and the call
pub mod Replays
pub mod Scripts
pub mod Listings
pub mod Makings
pub mod Programs
pub mod Verifications
pub mod Assemblies
pub mod Endings
pub mod Unopened
pub mod Codes
pub mod Tasks
-- a shell over a link, and a session with a client
pub mod Connections
pub mod Servings
pub mod ServedPlain
-- the headline at the call
pub mod Plain
-- how a call opens
pub mod Opening
