-- The mathematics of the joined bus. Read `Theorems`: what is proved.
--     Theorems   the statements, by name
--     Segments   the data words of a segment
--     Terminal   what a terminal makes of the turns of a message
--     Desk       the controller's side: what a start gives, and what comes back
--     Lists      terminals in a list, and the one of them that replies
--     Message    a message, turn by turn
--     Ending     every message ends
--     Satisfied  what is asked of a message can be had
mod Theorems
pub mod Segments
pub mod Terminal
pub mod Desk
pub mod Lists
pub mod Message
pub mod Ending
mod Satisfied
