-- The mathematics of the message formats.
--     RowLaws       how many words a row gives and gets
--     Determined    each public contract allows one outcome alone
--     Examples      the table pinned, by computation
pub mod RowLaws
pub mod Determined
mod Examples
