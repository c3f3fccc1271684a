-- The mathematics of a row of data words.
--     FoundLaws     the words that are found
--     StoreLaws     how the code stores them
--     TakenLaws     what a row leaves
--     RowTurns      they are as many turns of a run
--     Determined    the public contract allows one outcome alone
pub mod FoundLaws
pub mod StoreLaws
pub mod TakenLaws
pub mod RowTurns
pub mod Determined
