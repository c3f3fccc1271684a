-- The mathematics of what comes back of a message.
--     OrderLaws     the bounds of what an order asks for
--     CellLaws      where a word of the answer is stored
--     Determined    each public contract allows one outcome alone
pub mod OrderLaws
pub mod CellLaws
pub mod Determined
