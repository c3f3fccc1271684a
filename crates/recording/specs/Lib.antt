-- Recordings, from bytes to fields to what the reader finds. To be read: all but `AsCoded`.
--     Bytes       numbers that stand in bytes
--     Tag         the table of tags
--     Field       what a field holds
--     Seen        what a reader has seen, and which tag is due
--     Reading     the reader's order
--     Value       fields with their values in them
--     Accepted    what the reader takes of some bytes, and recordings that it takes whole
--     AsCoded     how the code is cut
pub mod Bytes
pub mod Tag
pub mod Field
pub mod Seen
pub mod Reading
pub mod Value
pub mod Accepted
pub mod AsCoded
