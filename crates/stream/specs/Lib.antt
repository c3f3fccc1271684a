-- A run of standard input, whatever its fields are. To be read: all but
-- `AsCoded`.
--     Progress    how far it has come, turn by turn
--     Came        how it ends
--     Known       what it has written, where the bytes of its input are known
--     AsCoded     how the code is cut
pub mod Progress
pub mod Came
pub mod Known
pub mod AsCoded
