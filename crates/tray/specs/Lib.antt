-- A tray run. Read `Run` first: what a recording prints. To be read: all but `AsCoded`.
--     Happening    what a field tells, and what comes of it
--     Run          a run of a recording, its text and how far it comes
--     AsCoded      how the code is cut: windows, rows
pub mod Happening
pub mod Run
pub mod AsCoded
