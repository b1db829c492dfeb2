-- numbers in decimal digits
mod Decimals
-- the bytes of the line that are still to come
mod Comings
-- how many there are
pub mod Sizes
-- what the bytes of frames come to
mod Tallies
-- what a made session sends
mod Sends
-- a session that was signed off
mod Signing
-- a replay of the whole line is the made session
mod Sessions
