mod Founds
mod FrameParts
mod Settlings
mod Handings
mod Feedings
mod Markings
