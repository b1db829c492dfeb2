-- the listing of a program
pub mod Listing
-- the forms of instructions, which are those of their texts
pub mod Forms
pub mod FormLaws
-- what a line says
pub mod Tokens
pub mod Reading
-- the words of a text
pub mod Words
-- texts worked by hand
pub mod Examples
-- a listing gives its program
pub mod ListingLaws
