-- Each public contract of the crate allows one outcome alone. Assumes nothing.
use Rattle.rules.proofs.Determined.{Determined, same}
use Rattle.message.proofs.asked.asked_of.Kinds as asked_of_kinds
use Rattle.message.proofs.asked.asked_of.Reads as asked_of_reads
use Rattle.message.proofs.state.OpenMessage.wants.Kinds as wants_kinds
use Rattle.message.proofs.state.OpenMessage.wants.Reads as wants_reads
use Rattle.message.proofs.state.OpenMessage.asks.Kinds as asks_kinds
use Rattle.message.proofs.state.OpenMessage.asks.Reads as asks_reads
use Rattle.message.proofs.judge.is_own.Kinds as is_own_kinds
use Rattle.message.proofs.judge.is_own.Reads as is_own_reads
use Rattle.message.proofs.judge.is_second.Kinds as is_second_kinds
use Rattle.message.proofs.judge.is_second.Reads as is_second_reads
use Rattle.message.proofs.judge.on_word.Kinds as on_word_kinds
use Rattle.message.proofs.judge.on_word.Reads as on_word_reads
use Rattle.message.proofs.judge.on_silence.Kinds as on_silence_kinds
use Rattle.message.proofs.judge.on_silence.Reads as on_silence_reads
use Rattle.message.proofs.state.OpenMessage.further.Kinds as further_kinds
use Rattle.message.proofs.state.OpenMessage.further.Reads as further_reads
use Rattle.message.proofs.state.moved_message.Kinds as moved_message_kinds
use Rattle.message.proofs.state.moved_message.Reads as moved_message_reads

pub asked_of : Determined 0 asked_of_kinds.ps asked_of_kinds.r asked_of_reads.Post
asked_of κs arguments result result' exit exit' = same

pub wants : Determined 0 wants_kinds.ps wants_kinds.r wants_reads.Post
wants κs arguments result result' exit exit' = same

pub asks : Determined 0 asks_kinds.ps asks_kinds.r asks_reads.Post
asks κs arguments result result' exit exit' = same

pub is_own : Determined 0 is_own_kinds.ps is_own_kinds.r is_own_reads.Post
is_own κs arguments result result' exit exit' = same

pub is_second : Determined 0 is_second_kinds.ps is_second_kinds.r is_second_reads.Post
is_second κs arguments result result' exit exit' = same

pub on_word : Determined 0 on_word_kinds.ps on_word_kinds.r on_word_reads.Post
on_word κs arguments result result' exit exit' = same

pub on_silence : Determined 0 on_silence_kinds.ps on_silence_kinds.r on_silence_reads.Post
on_silence κs arguments result result' exit exit' = same

pub further : Determined 0 further_kinds.ps further_kinds.r further_reads.Post
further κs arguments result result' exit exit' = same

pub moved_message :
    Determined 0 moved_message_kinds.ps moved_message_kinds.r moved_message_reads.Post
moved_message κs arguments result result' exit exit' = same
