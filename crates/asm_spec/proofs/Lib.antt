-- a listing line by line, and its end
pub mod Listings
-- tests of lists
pub mod Tests
-- the words of instructions
pub mod Binary
pub mod WordLetters
pub mod RowForms
pub mod FieldWords
-- operands are read back
pub mod CleanTexts
pub mod HexDigits
pub mod OperandsBack
pub mod MeaningsBack
pub mod RowLookup
-- lines are read back
pub mod Trims
pub mod LinesRead
pub mod LinesCut
pub mod Holding
pub mod Listed
pub mod Laying
pub mod Given
