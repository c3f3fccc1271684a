-- A transfer between two terminals, or from one to all: row 2, with X and without.
--     Columns     the row of two commands, as controller and terminals see it
--     Begun       what the commands make of a terminal
--     Done        what the transmitter's reply makes of it then
--     Commands    the first turn: the commands, and the transmitter's reply to them
--     Words       the second turn: the words come, to the controller and to each terminal
--     Same        the same words at both ends
--     ToAll       with X the message is over then
--     Last        without X the receiver replies too
--     Over        .. and that ends the message: the third turn
--     ToOne       the same words then
pub mod Columns
pub mod Begun
pub mod Done
pub mod Commands
pub mod Words
pub mod Same
pub mod ToAll
pub mod Last
pub mod Over
pub mod ToOne
