-- the numbers of a part
pub mod Chip
-- its flash, page by page
pub mod Pages
