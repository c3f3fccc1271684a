-- One broken message costs one block, by worked runs.
--     Sparing       that a block is spared, by computation
--     Unsound       all that is asked holds of document 01's run and one with an unsound word
--     Recordings    the same of their bytes, and what is printed
--     Claim         the claim, by what is asked and what is said
--     Superseded    all that is asked holds where the next command cuts the message off
--     LessAsked     with one thing less asked it is false
--     MoreSaid      with one exception less it is false
mod Sparing
mod Unsound
mod Recordings
mod Claim
mod Superseded
mod LessAsked
mod MoreSaid
