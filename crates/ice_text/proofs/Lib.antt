-- how long decimal numbers are
pub mod Decimals
-- how digits of bytes stand behind one another
pub mod Encodings
