-- The bus controller of document 02's K10.
--     Control    the control word
--     State      what the controller holds, and setup
--     Start      what is given to the bus
--     Heard      words and silences that come back, and the end of a message
--     Row        the data words that are wanted, and a row of them
--     Written    which cells it writes
--     Given      the words to give, as a part of the memory
--     Actions    the same with their refusals
pub mod Control
pub mod State
pub mod Start
pub mod Heard
pub mod Row
pub mod Written
pub mod Given
pub mod Actions
