-- Cases of document 01 as data.
--     Marked    the ten marked ones
pub mod Marked
