-- The mathematics of a run of standard input, whatever its fields are.
--     ProgressLaws  turn by turn is piece by piece, and how many turns there are
--     KnownLaws     known bytes, one part after the other
--     WindowLaws    bytes are taken from the window, and read into it
--     TurnLaws      a call, and what it leaves to do
--     LoopLaws      turn after turn
--     WholeLaws     what a whole run has printed, and what every run keeps
--     ReachLaws     how far the contract of a run reaches
--     Determined    what a window tells is one outcome alone
pub mod ProgressLaws
pub mod KnownLaws
pub mod WindowLaws
pub mod TurnLaws
pub mod LoopLaws
pub mod WholeLaws
pub mod ReachLaws
pub mod Determined
