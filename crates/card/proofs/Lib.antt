-- The mathematics of card memory. Read `Frame` first: what each write leaves alone.
--     Frame         what a write leaves alone, and the chain rule's ground
--     MemoryLaws    addresses; a store to a cell that is there and to one that is not
--     CellLaws      words stored in cells one after the other, and the words of a part
--     LentBlock     what is done to a lent block is done to that block of the whole
--     TimeLaws      elapsed time, added to the earlier stamp
--     HostLaws      the host's write, copied at once
--     PartLaws      a part that is shown
--     Determined    each public contract allows one outcome alone
--     Examples      the definitions pinned, by computation
pub mod Frame
pub mod MemoryLaws
pub mod CellLaws
pub mod LentBlock
pub mod TimeLaws
pub mod HostLaws
pub mod PartLaws
pub mod Determined
mod Examples
