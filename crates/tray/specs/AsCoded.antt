-- How the code is cut, which no rule asks for: a reviewer of document 01 need not read it. What it
-- comes to is said by the definitions beside this folder, and proved.
--     Window    a call over a window, its lines in a lent buffer
--     Held      what the code holds of a run
pub mod Window
pub mod Held
