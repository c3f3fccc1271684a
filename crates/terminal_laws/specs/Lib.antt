-- What is claimed of every event and of every run of the terminal.
--     Closes      which events close the open message, and what else becomes of it
--     Written     which cells an event may write
--     Chain       the chain rule: what a closing leaves, and what the next opening takes
--     AtRest      a card whole and fit, and at rest
--     OwnStatus   the remembered status has the terminal's address
--     OneBlock    one broken message costs one block: what that says of two runs
pub mod Closes
pub mod Written
pub mod Chain
pub mod AtRest
pub mod OwnStatus
pub mod OneBlock
