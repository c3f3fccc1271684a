-- How the code is cut, which no rule asks for: a reviewer of document 01 need not read it. What it
-- comes to is said by the definitions beside this folder, and proved.
--     Refusal    which number refuses, told first
pub mod Refusal
