-- What holds of the library's contracts for C.
--     Determined    each public contract allows one outcome alone
pub mod Determined
