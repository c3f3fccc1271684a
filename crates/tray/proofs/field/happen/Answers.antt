-- `tray::field::happen` meets its contract, field by field. Assumes nothing.
use Rattle.terminal.specs.State.{card}
use Rattle.terminal.specs.Machine.{
  step,
  read_queue_step,
  host_write_step,
  move_table_step,
  set_flags_step,
}
use Rattle.terminal.proofs.SilentLaws.{words_are_silent}
use Rattle.recording.specs.Value.{valued_at}
use Rattle.recording.proofs.WordsLaws.{words_written}
use Rattle.tray.specs.Happening.{happening_of, happened}
use Rattle.tray.proofs.field.happen.Goals as goal

pub returns-in-Setup : goal.returns-in-Setup
unfolding happened happening_of valued_at
returns-in-Setup c =
    rw (
      c.in-Setup.is,
      c.at_setup.ensures,
      c.empty.ensures,
      c.from-number.ensures,
      c.from.ensures,
      c.from-in-Setup.ensures,
    )

pub returns-in-Word : goal.returns-in-Word
unfolding happened happening_of valued_at step
returns-in-Word c =
    let old = card c.args.core.now c.args.queue.now c.args.ram.now in
    rw (c.in-Word.is, c.word.ensures, ← c.word_of.ensures, words_are_silent c.word_of.result old)

pub returns-in-Silence : goal.returns-in-Silence
unfolding happened happening_of valued_at step
returns-in-Silence c = rw (c.in-Silence.is, c.silence.ensures)

pub returns-in-ReadQueue : goal.returns-in-ReadQueue
unfolding happened happening_of valued_at step read_queue_step
returns-in-ReadQueue c = rw (c.in-ReadQueue.is, c.read.ensures.word, c.read.ensures.left)

pub returns-in-HostWrite : goal.returns-in-HostWrite
unfolding happened happening_of valued_at step host_write_step
returns-in-HostWrite c =
    let words = c.requires.words _ _ _ c.in-HostWrite.is in
    rw (
      c.in-HostWrite.is,
      c.write_words.ensures,
      words_written c.args.ram.now c.args.window.now c.in-HostWrite.address c.in-HostWrite.first
          c.in-HostWrite.count words.few words.there,
    )

pub returns-in-MoveTable : goal.returns-in-MoveTable
unfolding happened happening_of valued_at step move_table_step
returns-in-MoveTable c = rw (c.in-MoveTable.is, c.move_table.ensures, c.from-in-MoveTable.ensures)

pub returns-in-SetFlags : goal.returns-in-SetFlags
unfolding happened happening_of valued_at step set_flags_step
returns-in-SetFlags c = rw (c.in-SetFlags.is, c.set_flags.ensures, c.from-in-SetFlags.ensures)
