-- `recording::words::write_words` meets its contract: too many, not all there, or written one by
-- one. Assumes nothing.
use Rattle.std.proofs.Common.{rules}
use Rattle.recording.proofs.WordsLaws.{
  too_many_written,
  not_there_written,
  writing_all,
  writing_less,
  writing_past,
}
use Rattle.recording.proofs.words.write_words.Goals.{
  then-count-gt-MOST_WRITTEN-via-then-count-gt-MOST_WRITTEN,
  then-start-word,
  else-start-word,
  then-count-gt-MOST_WRITTEN-via-else-count-gt-MOST_WRITTEN+then-bytes_left-count,
}
use Rattle.recording.proofs.words.write_words.Goals as goal

pub returns-then-count-gt-MOST_WRITTEN : goal.returns-then-count-gt-MOST_WRITTEN
returns-then-count-gt-MOST_WRITTEN c =
    elim c.then-count-gt-MOST_WRITTEN.branch [
      | then-count-gt-MOST_WRITTEN-via-then-count-gt-MOST_WRITTEN w ↦
          search (rules, too_many_written)
      | then-count-gt-MOST_WRITTEN-via-else-count-gt-MOST_WRITTEN+then-bytes_left-count w ↦
          search (rules, not_there_written)
    ]

pub loop-word-init : goal.loop-word-init
loop-word-init c = search (rules, writing_all)

pub loop-word-preserved : goal.loop-word-preserved
loop-word-preserved c =
    elim c.if-start-word.branch [
      | then-start-word w ↦ search (rules, writing_less, w.ram-is)
      | else-start-word w ↦ search (rules, writing_past, w.ram-is)
    ]
