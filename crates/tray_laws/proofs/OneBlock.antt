-- One broken message costs one block, over recordings. Read `Theorem` first, beside
-- `specs/OneBlock.antt`.
--     Accepting    accepted bytes tell setup, then events
--     Printing     what a run makes of an accepted recording
--     Lines        outcomes that are the same print lines that are the same
--     Ending       outcomes that are the same leave cards that are alike
--     Theorem      the theorem
--     EachField    the theorem at the end of each later field
pub mod Accepting
pub mod Printing
pub mod Lines
pub mod Ending
pub mod Theorem
pub mod EachField
