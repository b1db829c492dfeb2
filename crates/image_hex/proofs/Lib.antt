pub mod Cutting
pub mod Pairing
pub mod Telling
pub mod Begun
pub mod Writing
