-- What is claimed of every recording. To be read: all but `AsCoded`.
--     Sound        a tray that no action of the library refuses by 1 or 4
--     ByActions    a run by the library's actions
--     Told         what the fields of accepted bytes tell
--     Answered     an answer and an end: what a run makes of any bytes
--     OneBlock     one broken message costs one block, over recordings
--     AsCoded      how a program reads: pieces
pub mod Sound
pub mod ByActions
pub mod Told
pub mod Answered
pub mod OneBlock
pub mod AsCoded
