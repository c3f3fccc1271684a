-- The mathematics of the lines. Read `WrittenLaws` first: what stands in the buffer after a write.
--     WrittenLaws    what stands in the buffer after a write
--     Callers        the next place lies in the buffer, for the proofs of callers
--     Lengths        how long each line is
--     HexLaws        hex digits read back to their number
--     DecimalLaws    decimal digits read back to their number, with no leading zero
--     PartLaws       what is stored part after part is stored at once
--     LineLaws       a line on each way that the code takes
--     Determined     each public contract allows one outcome alone
--     Examples       what no run shows, by computation
pub mod WrittenLaws
pub mod Callers
pub mod Lengths
pub mod HexLaws
pub mod DecimalLaws
pub mod PartLaws
pub mod LineLaws
pub mod Determined
mod Examples
