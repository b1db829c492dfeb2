-- the lines of a record, and their texts
pub mod Lines
-- when a record fits a program
pub mod Fits
-- what is said of a line by one who checks a record line by line
pub mod Judging
-- the laws of these definitions
pub mod RecordLaws
-- how the records worked by hand are set up
pub mod inside
