pub mod FirstWord
pub mod Choices
pub mod Rows
pub mod Form
