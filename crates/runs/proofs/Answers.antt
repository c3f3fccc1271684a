-- An answer and an end, at work: a recording that the reader accepts, one that it refuses after a
-- field, and what is false of the last line. Assumes nothing.
use mathlib.Core.Path.{◌≡◌, refl, ap}
use mathlib.Core.List.{List, [], ◌∷◌, ◌++◌}
use Prim.Native.Nat.{ℕ}
use native.Mathlib.Omega.{arith}
use lib.ListN.{get_or}
use Rattle.recording.specs.Tag.{tag_of, length_fits}
use Rattle.recording.specs.Field.{field_at}
use Rattle.recording.specs.Reading.{read_at}
use Rattle.recording.specs.Value.{setup, read_queue, valued_at, field_of}
use Rattle.recording.specs.Accepted.{no_more, a_field, seen_after_all}
use Rattle.lines.specs.Digits.{hex_word}
use Rattle.lines.specs.Lines.{queue_line, end_line, refusal_line}
use Rattle.pieces.specs.LastLine.{last_line}
use Rattle.pieces.specs.Whole.{whole_of, whole_by, whole_from as every_whole}
use Rattle.tray.specs.Happening.{happening_of, happenings, happened}
use Rattle.tray.specs.Run.{
  Tray,
  tray_at_start,
  taking,
  taking_line,
  met_by,
  tray_course,
  whole_from,
}
use Rattle.tray_laws.specs.Answered.{
  told_lines,
  told_card,
  tray_after,
  the_end,
  a_refusal,
  Answered,
}
use Rattle.runs.proofs.Telling.{runs}

-- station 5, table block 1, no flags; then a queue read
abbrev setup_bytes : List ℕ
setup_bytes = 0x01 ∷ 0x00 ∷ 0x03 ∷ 0x05 ∷ 0x01 ∷ 0x00 ∷ []

abbrev read_bytes : List ℕ
read_bytes = 0x04 ∷ 0x00 ∷ 0x00 ∷ []

-- to unfold `answers` is to unfold a tray run, and what an answer says of it
unfoldable answers : ℕ
unfolding runs read_at tag_of length_fits field_at valued_at field_of happening_of happenings
    happened tray_at_start last_line taking taking_line met_by tray_course whole_of whole_by
    every_whole seen_after_all told_lines told_card tray_after hex_word queue_line
answers = 0

-- it prints the line of the queue read, and END 2
accepted_answer : Answered tray_at_start (setup_bytes ++ read_bytes)
unfolding answers
accepted_answer =
    record {
      front = setup_bytes ++ read_bytes;
      left = [];
      fields = setup 5 1 0 ∷ read_queue ∷ [];
      line = end_line 2;
      parts = refl;
      takes = a_field refl (a_field refl no_more);
      last = the_end;
      run = refl;
    }

-- a second setup is refused by 9, at offset 6; what the first field did stands
unfoldable refused_answer : Answered tray_at_start (setup_bytes ++ setup_bytes)
unfolding answers
refused_answer =
    record {
      front = setup_bytes;
      left = setup_bytes;
      fields = setup 5 1 0 ∷ [];
      line = refusal_line 9 6;
      parts = refl;
      takes = a_field refl no_more;
      last = a_refusal;
      run = refl;
    }

-- ---- what is false of the last line

-- that it is always END
not_always_the_end : ((start : Tray) (bytes : List ℕ) (answer : Answered start bytes)
    → answer.line ≡ end_line (whole_from start bytes).run.fields) → ⊥
unfolding refused_answer answers end_line refusal_line
not_always_the_end always =
    let same : refusal_line 9 6 ≡ end_line 1 =
    always tray_at_start (setup_bytes ++ setup_bytes) refused_answer in
    let first : ◌≡◌ {A = ℕ} 33 69 = ap (λ (line : List ℕ). get_or line 0 0) same in
    omega (arith, first)
