pub mod Received
pub mod Receiving
pub mod Handing
pub mod Marks
pub mod Fronts
pub mod Inside
