-- A whole recording over lent memory.
pub mod Lent
