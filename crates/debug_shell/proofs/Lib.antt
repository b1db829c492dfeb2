-- the words of a line, its numbers, and its forms
pub mod Wordings
pub mod Numbers
-- the texts
pub mod Decimals
pub mod Encodings
-- what a line does, and how a script goes on
pub mod Doings
pub mod Holding
pub mod Going
pub mod Scripting
