-- `recording::words::write_words` meets its contract. The invariant of its loop is `Writing`.
-- Assumes nothing.
use Rattle.recording.specs.Bytes.{with_written}
use Rattle.recording.proofs.WordsLaws.{Writing}
use Rattle.recording.proofs.words.write_words.Given as goal

abbrev pub invariant-loop-word : goal.invariant-loop-word
invariant-loop-word l =
    Writing (with_written l.initial.ram l.address l.bytes l.first l.count) l.ram l.bytes
    l.address l.first l.count l.word
