-- How the code is cut, which no rule asks for: a reviewer of document 01 need not read it. What it
-- comes to is said by the definitions beside this folder, and proved.
--     Found     a word field that is looked for by its marks
--     Pieces    readings of a part of the bytes
pub mod Found
pub mod Pieces
