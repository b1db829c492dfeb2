pub mod Blank
pub mod BitLemmas
pub mod KeptLemmas
pub mod TickSteps
pub mod Counts
pub mod QuietTicks
pub mod Later
mod Watching
pub mod NonePending
