-- No line of a tray run is longer than the room that it is given (`taking_line_fits`), nor than 21
-- bytes for each byte of its field (`tray_lines_are_short`). Assumes nothing.
use mathlib.Core.Path.{◌≡◌, ap}
use mathlib.Core.Bool.{true}
use mathlib.Core.List.{List, [], ◌∷◌}
use Prim.Native.Nat.{ℕ, ◌+◌, ◌*◌, ◌≤◌}
use native.Mathlib.Omega.{arith}
use lib.ListN.{length}
use borrow.Author.Tests.{eqb-true}
use Rattle.card.specs.Memory.{card_blocks}
use Rattle.card.specs.Sent.{sent_part}
use Rattle.queue.specs.Queue.{oldest_word}
use Rattle.terminal.specs.declared.state.Answer.{Answer}
use Rattle.terminal.specs.declared.state.Answer.TheVariants.{Replied, QueueWord}
use Rattle.terminal.specs.declared.state.Reply.TheVariants as reply
use Rattle.terminal.specs.Machine.{
  step,
  read_queue_step,
  host_write_step,
  move_table_step,
  set_flags_step,
}
use Rattle.recording.specs.declared.field.Field.{Field}
use Rattle.recording.specs.declared.tag.Tag.{Tag}
use Rattle.recording.specs.declared.tag.Tag.TheVariants.{
  Setup,
  Word,
  Silence,
  ReadQueue,
  HostWrite,
  MoveTable,
  SetFlags,
}
use Rattle.recording.specs.Bytes.{word_at}
use Rattle.recording.specs.Tag.{length_fits}
use Rattle.recording.specs.Field.{field_at}
use Rattle.recording.specs.Value.{valued_at}
use Rattle.recording.proofs.TakenLaws.{taken_tells}
use Rattle.lines.specs.Written.{line_room}
use Rattle.lines.proofs.Lengths.{length_status_line, queue_bytes, length_queue_line}
use Rattle.pieces.specs.Steady.{ShortLines}
use Rattle.tray.specs.Happening.{happening_of, happened}
use Rattle.tray.specs.Run.{Tray, answer_line, taking_line, tray_course}
use Rattle.tray.proofs.LineLaws.{few_sent}
use Rattle.tray_laws.proofs.MetLaws.{taken_so}

-- ---- by the answer

answer_fits : (ram : List ℕ) (answer : Answer) → length (answer_line ram answer) ≤ line_room
answer_fits ram (Replied reply.Silent) = omega arith
answer_fits ram (Replied (reply.Status status)) = length_status_line status [] (omega arith)
answer_fits ram (Replied (reply.Words status block count)) =
    length_status_line status (sent_part card_blocks ram block count) (few_sent ram block count)
answer_fits ram (Replied (reply.Last status command)) =
    length_status_line status (command ∷ []) (omega arith)
answer_fits ram (QueueWord word) = length_queue_line word

pub taking_line_fits : (bytes : List ℕ) (field : Field) (old : Tray)
    → length (taking_line bytes field old) ≤ line_room
unfolding taking_line
taking_line_fits bytes field old =
    let new = happened (happening_of (valued_at bytes field)) old.card in
    answer_fits new.card.ram new.answer

-- ---- by the bytes of the field

module _ (bytes : List ℕ) (value size : ℕ) (old : Tray) where
  line_by_size : (tag : Tag) → length_fits tag size ≡ true
      → length (taking_line bytes (field_at bytes tag value size) old) ≤ 21 * (3 + size)
  unfolding length_fits field_at taking_line happening_of valued_at happened step read_queue_step
      host_write_step move_table_step set_flags_step
  line_by_size Setup fits = omega arith
  line_by_size Word fits =
      omega (
        arith,
        taking_line_fits bytes (field_at bytes Word value size) old,
        eqb-true size 7 fits,
      )
  line_by_size Silence fits =
      omega (
        arith,
        taking_line_fits bytes (field_at bytes Silence value size) old,
        eqb-true size 5 fits,
      )
  line_by_size ReadQueue fits = omega (arith, queue_bytes (oldest_word old.card.queue))
  line_by_size HostWrite fits = omega arith
  line_by_size MoveTable fits = omega arith
  line_by_size SetFlags fits = omega arith

pub tray_lines_are_short : ShortLines tray_course 21
tray_lines_are_short old bytes at next line new is =
    let read = taken_so old bytes at is in
    let told = taken_tells bytes at old.seen read.is_read in
    let size = word_at bytes (at + 1) in
    let short : length (taking_line bytes read.field old) ≤ 21 * (3 + size) =
    rw told.is_field
    (line_by_size bytes (at + 3) size old told.tag told.there.fits) in
    let same : length (taking_line bytes read.field old) ≡ length line =
    ap length read.is_line_lem in
    omega (arith, short, same, told.is_next)
