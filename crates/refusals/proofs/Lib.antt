-- Refusals and their numbers.
--     NumberLaws    no two refusals have one number, and none has 0
--     Determined    the contract allows one outcome alone
pub mod NumberLaws
pub mod Determined
