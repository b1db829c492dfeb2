-- the records of `src/rows.rt`
pub mod Examples
