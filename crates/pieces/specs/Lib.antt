-- A recording that comes in pieces, whatever its fields are. Read `Course` first: what a program
-- brings. To be read: all but `AsCoded`.
--     LastLine    the last line, and how fields and offsets are counted
--     Course      what a run makes of what stands at a place
--     Whole       what it makes of a whole recording
--     Steady      what is asked of a course, so that a recording may come in pieces
--     AsCoded     how the code is cut: windows, pieces
pub mod LastLine
pub mod Course
pub mod Whole
pub mod Steady
pub mod AsCoded
