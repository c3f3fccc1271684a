-- One broken message costs one block, for any set of blocks that broken messages cost and any size
-- of card. Read `Theorem` first, beside `specs/OneBlock.antt`.
--     Agreement    memories that agree but for the cells that such blocks lose
--     Queues       queues that are the same stay so
--     Relation     two runs that go on with the same events: what is the same in their cards
--     Changes      what both do to related cards leaves them related
--     Answers      their answers, and how many words are sent
--     Tail         the same events keep the runs related and bring the same outcomes
--     Acts         which words open a message
--     Stretch      where a stretch of words and silences can lead to
--     Meeting      where two stretches meet, and that the cards are related there
--     Opened       a word that opens a message opens it on some card
--     Theorem      the theorem, for related cards and as stated
pub mod Agreement
pub mod Queues
pub mod Relation
pub mod Changes
pub mod Answers
pub mod Tail
pub mod Acts
pub mod Stretch
pub mod Meeting
pub mod Opened
pub mod Theorem
