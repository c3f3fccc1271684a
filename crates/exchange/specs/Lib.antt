-- What comes back of a message, after the first silence.
--     Order    what was asked, and what is due by it
--     Judge    what a word or a silence is to the answer
pub mod Order
pub mod Judge
