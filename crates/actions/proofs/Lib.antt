-- The mathematics of the library's actions.
--     ActionLaws    how the code refuses and answers
--     SetupLaws     what setup returns is fit
--     NoTerminal    what a refused setup stands for is refused by every action
--     Determined    each public contract allows one outcome alone
pub mod ActionLaws
pub mod SetupLaws
pub mod NoTerminal
pub mod Determined
