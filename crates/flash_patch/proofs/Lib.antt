-- sets of addresses
pub mod Rising
-- pages with planted words
pub mod Planting
-- pages compared, and what is asked of a flash
pub mod Comparing
pub mod Writes
