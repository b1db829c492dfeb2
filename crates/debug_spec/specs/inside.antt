-- how the sessions of src/ that are worked by hand are set up and read
pub mod Examples
pub mod NumberExamples
pub mod ScheduleExamples
