-- Each public contract of the crate allows one outcome alone: one reading, and one content of every
-- word that was lent. Assumes nothing.
use mathlib.Core.List.{List}
use Prim.Native.Nat.{ℕ}
use Rattle.rules.proofs.Determined.{Determined, DeterminedAs, same}
use Rattle.recording.proofs.AnswerLaws.{same_reading}
use Rattle.recording.proofs.seen.Seen.nothing.Kinds as nothing_kinds
use Rattle.recording.proofs.seen.Seen.nothing.Reads as nothing_reads
use Rattle.recording.proofs.seen.Seen.after.Kinds as after_kinds
use Rattle.recording.proofs.seen.Seen.after.Reads as after_reads
use Rattle.recording.proofs.reading.read_field.Kinds as read_field_kinds
use Rattle.recording.proofs.reading.read_field.Reads as read_field_reads
use Rattle.recording.proofs.words.find_word.Kinds as find_word_kinds
use Rattle.recording.proofs.words.find_word.Reads as find_word_reads
use Rattle.recording.proofs.words.write_words.Kinds as write_words_kinds
use Rattle.recording.proofs.words.write_words.Reads as write_words_reads
use Rattle.recording.proofs.bytes.of_bytes.Kinds as of_bytes_kinds
use Rattle.recording.proofs.bytes.of_bytes.Reads as of_bytes_reads

pub nothing_seen : Determined 0 nothing_kinds.ps nothing_kinds.r nothing_reads.Post
nothing_seen κs arguments result result' exit exit' = same

pub seen_after : Determined 0 after_kinds.ps after_kinds.r after_reads.Post
seen_after κs arguments result result' exit exit' = same

pub read_field : Determined 1 read_field_kinds.ps read_field_kinds.r read_field_reads.Post
read_field κs arguments result result' exit exit' = λ is is'.
    same_reading result result' (same is is')

pub find_word : Determined 1 find_word_kinds.ps find_word_kinds.r find_word_reads.Post
find_word κs arguments result result' exit exit' = same

pub write_words :
    DeterminedAs 2 write_words_kinds.ps write_words_kinds.r write_words_reads.Post (List ℕ)
    (λ κs result exit. exit.1.1.1.0.now)
write_words κs arguments result result' exit exit' = same

pub of_bytes : Determined 0 of_bytes_kinds.ps of_bytes_kinds.r of_bytes_reads.Post
of_bytes κs arguments result result' exit exit' = same
