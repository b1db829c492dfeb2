mod Reading
mod Table
mod Linear
mod Block
mod Writing
mod Headers
mod Scanning
