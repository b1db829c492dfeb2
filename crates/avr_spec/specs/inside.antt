-- how the values of src/values.rt are set up
pub mod Examples
