-- looks for whether a run is to stop
pub mod Looking
-- the run of a job, and what an advance makes of it
pub mod Runs
-- what a runner gives back of a job
pub mod Ends
