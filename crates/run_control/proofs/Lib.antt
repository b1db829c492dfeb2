-- a run from boundary to boundary
pub mod Boundaries
-- an advance: its first step, and the boundaries behind it
pub mod Advancing
-- the number of steps of a launch
pub mod Numbers
