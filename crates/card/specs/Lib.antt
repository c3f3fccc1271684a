-- Card memory. Read `Memory` first.
pub mod Memory
pub mod Lent
pub mod TableWord
pub mod StateWord
pub mod Time
pub mod Host
pub mod Part
pub mod Sent
