-- Document 001's table of message formats.
--     Row     what each row puts on the bus, and which cells hold it
--     Code    how a format code names a row
pub mod Row
pub mod Code
