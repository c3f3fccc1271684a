-- What holds of every recording and of every run of one. Read `Theorems`: what is proved.
--     Theorems      the statements, by name
--     MetLaws       what a run meets is what the reader reads
--     FitLaws       no line is longer than its room
--     SteadyLaws    the course of a tray run is steady
--     PrintedLaws   what is printed goes field by field
--     WindowLaws    a call prints its part, whatever comes behind
--     EndLaws       a call comes to an end
--     RoomLaws      a buffer with room for a whole recording holds all its lines
--     PieceLaws     any pieces print what the whole prints
--     SoundLaws     a field leaves the memory whole and the terminal fit
--     SoundPieces   a call does so, and a recording that is read in pieces
--     RefusedAlike  what the reader refuses for its value, the action refuses by the same number
--     ByActions     a run is what the library's actions make
--     ReplyLaws     the words that the library's silence sends
--     ToldLaws      what bytes tell, one behind the other and cut at the end of a field
--     OnwardLaws    a run goes on behind the fields that are taken
--     ToldRun       a run of bytes that tell something goes to END
--     AnswerLaws    every list of bytes gets an answer and an end
--     OneBlock      one broken message costs one block, over recordings
mod Theorems
pub mod MetLaws
pub mod FitLaws
pub mod SteadyLaws
pub mod PrintedLaws
pub mod WindowLaws
pub mod EndLaws
pub mod RoomLaws
pub mod PieceLaws
pub mod SoundLaws
pub mod SoundPieces
pub mod RefusedAlike
pub mod ByActions
pub mod ReplyLaws
pub mod ToldLaws
pub mod OnwardLaws
pub mod ToldRun
pub mod AnswerLaws
pub mod OneBlock
