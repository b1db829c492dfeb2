-- an instruction: its second word, its effect behind its first word, and whether it runs
pub mod Completed
pub mod Executing
pub mod Stopping
pub mod Passing
-- how a step begins
pub mod Beginning
-- the stack, and the entry of an interrupt
pub mod Stacking
pub mod Entry
-- the state that stands behind a core
pub mod Sram
pub mod DataSpace
pub mod Standing
