pub mod Views
pub mod Notes
pub mod Chunks
pub mod Posts
pub mod Stops
pub mod Turns
pub mod Raised
