-- The mathematics of a controller's run.
--     ReadingLaws    how the code comes to each reading
--     TakenLaws      what a reading tells of the bytes
--     LineLaws       the lines, as the code writes them
--     TurnLaws       one field of a window
--     RowTurns       a row of data words, taken at once, is as many turns
--     AnswerLaws     an answer of the reader tells all of a reading
--     Determined     each public contract allows one outcome alone
pub mod ReadingLaws
pub mod TakenLaws
pub mod LineLaws
pub mod TurnLaws
pub mod RowTurns
pub mod AnswerLaws
pub mod Determined
