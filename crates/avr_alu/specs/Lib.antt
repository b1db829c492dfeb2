pub mod Status
pub mod Carries
