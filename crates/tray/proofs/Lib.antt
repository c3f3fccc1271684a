-- The mathematics of a tray run, as the code makes it. What holds of every run is in `tray_laws`.
--     LineLaws      the line of an answer
--     TurnLaws      one field of a window, as the code takes it
--     RowTurns      a row of data words, taken at once, is as many turns
--     Determined    each public contract allows one outcome alone
pub mod LineLaws
pub mod TurnLaws
pub mod RowTurns
pub mod Determined
