-- The controller's side of a message: nothing of a terminal is known here.
--     Starting    a start that gives words, and what it tells of the order
--     Giving      the words that it gives, cell by cell
--     Words       the words of an answer stand behind those given, one after the other
--     Turns       a turn of the words given, of an answer, of a last status: code 0
--     Late        how far a message is from its end, in silences; no word brings it further away
--     Nearer      each silence brings it nearer
pub mod Starting
pub mod Giving
pub mod Words
pub mod Turns
pub mod Late
pub mod Nearer
