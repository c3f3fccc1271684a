-- The mathematics of recordings. Read `Theorems`: what is proved.
--     Theorems       the statements, by name
--     TagLaws        the sizes that fit a tag
--     FieldLaws      the bytes of a value, and the numbers of a field's refusal
--     ReadingLaws    the reader's order on each way that the code takes
--     WordsLaws      the words of a host write, one by one
--     TakenLaws      what a reading tells: where a field ends, whom a refusal names
--     FoundLaws      a word field that is looked for is what the reader reads
--     OfBytes        of bytes the reader never gives 3
--     InOrder        every field that is taken is in order
--     MoreBytes      bytes that come behind change no reading that is settled
--     WaitingLaws      where the reader waits, few bytes are left
--     TakenWords     the words of a host write that was taken
--     Shifted        a recording read as if it began further on
--     ValueLaws      the values of a field, wherever it stands
--     AcceptedLaws   the reader takes one row of fields alone
--     CutLaws        accepted bytes cut at the end of a field
--     AnswerLaws     an answer of the reader tells all of a reading
--     Determined     each public contract allows one outcome alone
--     Examples       the definitions at work, by computation
mod Theorems
pub mod TagLaws
pub mod FieldLaws
pub mod ReadingLaws
pub mod WordsLaws
pub mod TakenLaws
pub mod FoundLaws
pub mod OfBytes
pub mod InOrder
pub mod MoreBytes
pub mod WaitingLaws
pub mod TakenWords
pub mod Shifted
pub mod ValueLaws
pub mod AcceptedLaws
pub mod CutLaws
pub mod AnswerLaws
pub mod Determined
mod Examples
