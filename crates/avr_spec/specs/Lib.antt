-- numbers and their bits
pub mod Bytes
-- instructions: their table, what words they are, and their texts
pub mod Table
pub mod Decode
pub mod Fields
pub mod Text
-- arithmetic and its flags
pub mod Sreg
pub mod Flags
-- the state: the I/O space with its timers and interrupts, registers and memory, and what a core keeps of it
pub mod IoSpace
pub mod Timers
pub mod Interrupts
pub mod Machine
pub mod Memory
pub mod Kept
-- what moves it: the effect of an instruction, and a step
pub mod Effect
pub mod Step
-- what is proved of all this: laws, and the set-up of worked values
pub mod Laws
pub mod inside
