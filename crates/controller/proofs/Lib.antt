-- The mathematics of the controller.
--     RowWords       a data word that is wanted is stored; a row of them is as many words
--     WantedWords    the words that it says it wants are such a row
--     WrittenLaws    which cells are written, and which are kept
--     Determined     each public contract allows one outcome alone
pub mod RowWords
pub mod WantedWords
pub mod WrittenLaws
pub mod Determined
