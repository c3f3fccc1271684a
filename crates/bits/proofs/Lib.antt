-- A bit's weight.
--     Determined    the contract allows one outcome alone
pub mod Determined
