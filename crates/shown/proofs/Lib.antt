-- The mathematics of texts in a lent buffer. Read `TextLaws` first.
--     TextLaws       texts put one behind the other are put at once
--     CellLaws       the loop over the card's cells
--     RoomLaws       how long a text is at the most; with room it is put whole
--     Determined     each public contract allows one outcome alone
--     Examples       a text that is cut, by computation
pub mod TextLaws
pub mod CellLaws
pub mod RoomLaws
pub mod Determined
mod Examples
