pub mod Keeps
pub mod TimerOf
pub mod Pending
pub mod Quiet
