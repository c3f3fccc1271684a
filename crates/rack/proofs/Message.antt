-- A message, turn by turn, over any number of terminals.
--     Carry       a turn that ends the message, and one that does not; how a message begins
--     Answered    the one terminal that replies, and where the controller holds its words
--     Alone       a message of one command: rows 0, 1, 3, 4 and 5
--     Transfer    a message of two commands: row 2
--     EveryRow    every row, and a run
pub mod Carry
pub mod Answered
pub mod Alone
pub mod Transfer
pub mod EveryRow
