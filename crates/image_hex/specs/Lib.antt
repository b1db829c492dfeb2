pub mod Lines
pub mod Records
pub mod Told
pub mod Hex
pub mod Taking
pub mod Raw
pub mod Reading
pub mod Written
