-- Numbers, words and cells as text.
--     Text     texts, and a buffer that takes as much of one as it has room for
--     Item     a name, a value, and the byte behind it
--     Cells    the lines of card memory
pub mod Text
pub mod Item
pub mod Cells
