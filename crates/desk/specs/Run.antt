-- A run of a controller's recording: its fields one by one over the controller, and the lines that
-- are printed. Definitions only. Assumes nothing.
use Rattle.std.specs.Prelude.{ℕ, ◌+◌, ◌-◌, cond, List, replicate, ◌==◌}
use Rattle.recording.specs.declared.seen.Seen.{Seen}
use Rattle.recording.specs.Seen.{nothing_seen}
use Rattle.pieces.specs.LastLine.{counted}
use Rattle.pieces.specs.Course.{Met, taken, at_end, refused, Course}
use Rattle.pieces.specs.Whole.{whole_from}
use Rattle.controller.specs.State.{Desk, desk, desk_words, at_setup}
use Rattle.desk.specs.declared.field.Field.{Field}
use Rattle.desk.specs.Reading.{Reading, Taken, End, Refused, read_at, seen_after}
use Rattle.desk.specs.Deed.{Done, deed_of, answer_line}

-- how far a run has come: what the reader has seen, the controller and its memory, how many fields
-- were taken, and where in the recording the next one begins
pub record Run : Type 0 where
  pub seen : Seen
  pub desk : Desk
  pub fields : ℕ
  pub offset : ℕ

-- before the first field, over a memory: the controller may start nothing
unfoldable pub run_over : List ℕ → Run
run_over ram =
    record { seen = nothing_seen; desk = desk (at_setup 0 0) ram; fields = 0; offset = 0 }

-- the memory starts zero
unfoldable pub run_at_start : Run
unfolding run_over
run_at_start = run_over (replicate desk_words 0)

-- a field is taken, and the next begins so many bytes further on
unfoldable pub taking : Field → ℕ → Done → Run → Run
taking field size deed old =
    record {
      seen = seen_after field old.seen;
      desk = deed.desk;
      fields = counted (old.fields + 1);
      offset = counted (old.offset + size);
    }

-- unless what it does is refused; the words given are those in the memory
unfoldable pub took_by : Field → ℕ → ℕ → Done → Run → Met Run
took_by field at next deed old =
    cond (deed.refusal == 0)
    (taken next (answer_line deed.desk.ram deed.answer) (taking field (next - at) deed old))
    (refused deed.refusal)

-- what a reading at a place is to the run
unfoldable pub met_by : Reading → List ℕ → ℕ → Run → Met Run
met_by (Taken field next) bytes at old =
    took_by field at next (deed_of bytes field old.desk) old
met_by End bytes at old = at_end
met_by (Refused number) bytes at old = refused number

-- the course of the run: the reader goes by what it has seen
unfoldable pub desk_course : Course Run
desk_course =
    record {
      fields = λ old. old.fields;
      offset = λ old. old.offset;
      meets = λ old bytes at. met_by (read_at bytes at old.seen) bytes at old;
    }

-- what the program prints of a recording
unfoldable pub printed : List ℕ → List ℕ
printed bytes = (whole_from desk_course run_at_start bytes).text
