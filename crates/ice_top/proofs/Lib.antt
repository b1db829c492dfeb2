mod StopLemmas
mod WordLemmas
mod Commands
mod Openings
mod Scriptings
-- what a session drops, one that has begun, its end, and the headline for it
mod Dropping
mod Sessions
mod Plainly
mod Makings
-- a shell over a link
mod Shells
-- a session with a client, and the headline for it
mod Servings
mod ServedPlainly
