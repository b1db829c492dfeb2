-- how a part of the code is said to do what the book does where it asks things of the flash
pub mod Asking
pub mod Launching
-- what the emulator stands for, and what one call of it does
pub mod Standing
pub mod Taking
pub mod Coming
pub mod Feeding
pub mod Session
pub mod Beginning
