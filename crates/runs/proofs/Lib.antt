-- The marked cases of document 01 by computation, and theorems at work: instances, and variants
-- that ask less or say more, refuted. The other worked cases are rows of the program `vectors`.
-- Read `Marked` first.
--     Machine         one name to unfold the whole machine
--     Telling         what runs are told with
--     Marked          the ten marked cases of document 01, one table with one proof
--     Opened          what an opening fixes, and how an event says that it opened
--     FourBlocks      document 01's run on a card of four blocks
--     Chains          the chain rule and what may be written, at work, and what is false with less
--     Closings        a closing keeps the data of its block, and what is false with less
--     Rest            whole, fit and at rest, a card stays so, and what is false with less
--     Statuses        the remembered status keeps its address, and what is false with less
--     Sent            the words of a reply are those of the silence
--     ByActions       the library's actions make document 01's run; what is refused with less
--     Answers         an answer and an end: a recording that is accepted, and one that is refused
--     OneBlock        one broken message costs one block: two runs, and what is false with less
pub mod Machine
pub mod Telling
mod Marked
mod Opened
mod FourBlocks
mod Chains
mod Closings
mod Rest
mod Statuses
mod Sent
mod ByActions
mod Answers
mod OneBlock
