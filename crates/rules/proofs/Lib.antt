-- The rules that every crate's proofs cite, on plain lists, numbers and contracts.
--     Cases         which way a definition that goes by tests takes, for `search`
--     Choices       what holds of each way that a definition by tests can take
--     Stays         what stays as it was when more is known
--     Empty         a list without entries
--     Halves        what a test made of two tells of each of them
--     Clash         what cannot be, since two constructors differ
--     LentPart      what a store to a lent part is to the whole
--     Determined    what it means that a contract allows one outcome alone
--     Tabulated     a table whose rule is computed once
--     LastArm       what the last arm of a `match` on a number knows
pub mod Cases
pub mod Choices
pub mod Stays
pub mod Empty
pub mod Halves
pub mod Clash
pub mod LentPart
pub mod Determined
pub mod Tabulated
pub mod LastArm
