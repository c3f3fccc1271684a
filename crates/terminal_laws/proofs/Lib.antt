-- What holds of every event and of every run of the terminal. Read `Theorems`: what is proved.
--     Theorems      the statements, by name
--     FitParts      what refusal 4 asks of a state, part by part
--     FitMessage    an open message is fit when it opens, and further on
--     FitChanges    going on, opening and closing keep the card fit
--     FitWord       a word keeps the card fit, whatever it decides
--     FitSilence    a silence keeps the card fit
--     FitLaws       a fit state stays fit: one event, and a run
--     StoreLaws     where rule 8 stores a word
--     OneBlock      one broken message costs one block
--     StepFrame     what an event leaves alone: every cell that it may not write
--     ClosedCells   what a closing makes of memory: data cells and length are kept
--     RestLaws      whole and fit, or at rest, a card stays so; its blocks lie in memory
--     StatusLaws    the remembered status keeps its station's address
--     OtherCells    .. and so the other cells of a message's block, and other blocks
--     ClosesLaws    an open message closes, is dropped, or stays open as it was opened
--     ReplyLaws     the words that a reply sends are those in memory at the silence
--     ChainLaws     a closing takes its chain on, and the next opening takes the block named
mod Theorems
pub mod FitParts
pub mod FitMessage
pub mod FitChanges
pub mod FitWord
pub mod FitSilence
pub mod FitLaws
pub mod StoreLaws
pub mod OneBlock
pub mod StepFrame
pub mod ClosedCells
pub mod RestLaws
pub mod StatusLaws
pub mod OtherCells
pub mod ClosesLaws
pub mod ReplyLaws
pub mod ChainLaws
