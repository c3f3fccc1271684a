-- A run of a controller's recording. Read `Run` first: what a recording prints. To be read: all but
-- `AsCoded`.
--     Reading    what the reader finds at a place
--     Deed       what a field does, and its line
--     Run        the run of a recording, and what it prints
--     AsCoded    how the code is cut
pub mod Reading
pub mod Deed
pub mod Run
pub mod AsCoded
