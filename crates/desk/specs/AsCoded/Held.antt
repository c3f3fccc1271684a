-- What the code holds of a run, as the definitions have it. Definitions only. Assumes nothing.
use Rattle.std.specs.Prelude.{◌≡◌, ℕ, ◌*◌, ◌≤◌, List, None, Result, Ok, Err}
use Rattle.refusals.specs.declared.Refusal.{Refusal}
use Rattle.recording.specs.declared.field.Field.TheVariants.{HostWrite}
use Rattle.recording.specs.Bytes.{bytes_left}
use Rattle.recording.specs.Seen.{nothing_seen}
use Rattle.controller.specs.State.{desk, at_setup}
use Rattle.desk.specs.declared.field.Field.{Field}
use Rattle.desk.specs.declared.field.Field.TheVariants.{Shared}
use Rattle.desk.specs.declared.deed.Answer.{Answer}
use Rattle.desk.specs.declared.deed.Answer.TheVariants.{Gave}
use Rattle.desk.specs.declared.run.Run.{Run as HeldRun}
use Rattle.desk.specs.Run.{Run}

-- the memory is lent
abbrev pub run_of : HeldRun → List ℕ → Run
run_of run ram =
    record {
      seen = run.seen;
      desk = desk run.controller ram;
      fields = run.fields;
      offset = run.offset;
    }

-- before the first field
unfoldable pub held_at_start : HeldRun
held_at_start = record { controller = at_setup 0 0; seen = nothing_seen; fields = 0; offset = 0 }

-- what comes of a field: of a start that is refused no words
abbrev pub answer_in : Result Answer Refusal → Answer
answer_in (Ok answer) = answer
answer_in (Err refusal) = Gave None

-- ---- what a field brings that was read

-- where the field is a write, its words stand whole in the window, and are 64 at the most
pub record WordsThere (window : List ℕ) (field : Field) : Type 0 where
  pub few : (address first count : ℕ) → field ≡ Shared (HostWrite address first count)
      → count ≤ 64
  pub there : (address first count : ℕ) → field ≡ Shared (HostWrite address first count)
      → 2 * count ≤ bytes_left window first

-- the field was read at a place, and the next begins further on
pub record WasRead (window : List ℕ) (field : Field) (at next : ℕ) : Type 0 where
  pub words : WordsThere window field
  pub further : at ≤ next
