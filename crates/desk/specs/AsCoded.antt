-- How the code is cut, which no rule asks for. What it comes to is said by the definitions beside
-- this folder, and proved.
--     Held    what the code holds of a run
pub mod Held
