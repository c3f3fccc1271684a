-- A message of one command: rows 0, 1, 3, 4 and 5, with X and without.
--     Columns    the rows of one command, as controller and terminals see them
--     Turned     what the words given make of a terminal
--     Given      the first turn: the words given, and each terminal behind them
--     Same       the same words at both ends, wherever the data are
--     ToAll      with X the message is over then
--     Reply      without X one terminal replies, and that ends the message
--     ToOne      the same words then
pub mod Columns
pub mod Turned
pub mod Given
pub mod Same
pub mod ToAll
pub mod Reply
pub mod ToOne
