-- The standard's words, in the order in which they build on each other.
pub mod Limits
pub mod Word
pub mod DataWords
pub mod Command
pub mod Mode
pub mod Kind
pub mod Status
