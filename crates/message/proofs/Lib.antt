-- The mathematics of an open message.
--     AskedLaws      the rows of the table of what is asked, as the code makes them
--     AskedBounds    .. and their bounds
--     WantsLaws      how many words an open message takes and stores
--     JudgeLaws      how the code comes to each decision on a word or a silence
--     MessageLaws    a message, open or not, taken apart
--     Determined     each public contract allows one outcome alone
pub mod AskedLaws
pub mod AskedBounds
pub mod WantsLaws
pub mod JudgeLaws
pub mod MessageLaws
pub mod Determined
