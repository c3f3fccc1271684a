-- How the code is cut, which no rule asks for: a reviewer of document 01 need not read it. What it
-- comes to is said by the definitions beside this folder, and proved.
--     Pieces    a recording that comes in pieces
pub mod Pieces
