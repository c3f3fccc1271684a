-- The mathematics of a whole recording over lent memory.
--     SizeLaws      which sizes are refused
--     TextLaws      what a caller reads off the answer
--     RunLaws       one call of the run does the whole
--     Determined    each public contract allows one outcome alone
pub mod SizeLaws
pub mod TextLaws
pub mod RunLaws
pub mod Determined
