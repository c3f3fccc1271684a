-- One bus: a controller and terminals of different stations, a memory each. Read `Bus` first, then
-- `SameWords`: what is proved of it.
--     Segment      what is said at once, by whom, and which words the others hear
--     Hearing      what a terminal and the controller make of it, and of the silence behind it
--     Bus          turns until the message has ended, and a run of messages
--     Terminals    any number of terminals
--     Asked        what is asked of a message
--     Changed      which cells a message may change at a terminal
--     SameWords    what is then the same at both ends
--     Ending       that every message ends, and how soon
pub mod Segment
pub mod Hearing
pub mod Bus
pub mod Terminals
pub mod Asked
pub mod Changed
pub mod SameWords
pub mod Ending
