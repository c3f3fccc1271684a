-- A row of data words, taken at once. No rule asks for it: what it comes to is as many words.
--     Row      the words that are found, and where they are stored
--     Turns    as many turns of a run, whatever hears the words
pub mod Row
pub mod Turns
