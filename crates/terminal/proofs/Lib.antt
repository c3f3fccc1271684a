-- The mathematics of the terminal's code. What holds of every event is in `terminal_laws`.
--     StepLaws      a word and a silence meet what is open
--     RowWords      a data word that is wanted is stored; a row of them is as many words
--     SilentLaws    a word brings no reply
--     Determined    each public contract allows one outcome alone
pub mod StepLaws
pub mod RowWords
pub mod SilentLaws
pub mod Determined
