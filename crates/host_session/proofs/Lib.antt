-- how bytes that have come are looked at, and what is heard among them
mod Arrivals
mod Hearings
-- how a frame is awaited, piece after piece
mod Goings
-- what a call answers then
mod Answering
