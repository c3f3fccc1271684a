-- How the code is cut, which no rule asks for: a reviewer of document 01 need not read it. What it
-- comes to is said by the definitions beside this folder, and proved.
--     Window    a call over a window, its lines in a lent buffer
--     OnPage    what is left where a page was printed on
--     Runner    what the code of a run makes of a place
--     Rest      what is left of a window
--     Pieces    a recording that comes in pieces
pub mod Window
pub mod OnPage
pub mod Runner
pub mod Rest
pub mod Pieces
