-- The mathematics of the standard's words.
--     CommandLaws   how many words a command has
--     ModeLaws      what a line of the mode table tells, and what is past its end
--     StatusLaws    the address of a status word, and its message error bit
--     Determined    each public contract allows one outcome alone
--     Examples      the definitions pinned, by computation
pub mod CommandLaws
pub mod ModeLaws
pub mod StatusLaws
pub mod Determined
mod Examples
