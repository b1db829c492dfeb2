pub mod Front
pub mod Scans
pub mod Scanned
pub mod Zeros
