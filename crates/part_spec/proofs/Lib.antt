-- the numbers of the parts
pub mod Numbers
-- what page writes leave of a flash
pub mod PageLemmas
