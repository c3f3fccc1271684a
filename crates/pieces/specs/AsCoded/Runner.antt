-- What the code of a run makes of what stands at a place of its bytes. Definitions only. Assumes
-- nothing.
use Rattle.std.specs.Prelude.{
  ◌≡◌,
  Bool,
  List,
  ℕ,
  ◌-◌,
  ◌≤◌,
  ◌<◌,
  length,
  Option,
  Some,
  None,
  Result,
  Ok,
  Err,
}
use Rattle.refusals.specs.declared.Refusal.{Refusal}
use Rattle.refusals.specs.Number.{number_of}
use Rattle.lines.specs.Written.{Put, line_written}
use Rattle.pieces.specs.declared.window.Passed.{Passed as HeldPassed}
use Rattle.pieces.specs.declared.stop.Stop.TheVariants.{Going}
use Rattle.pieces.specs.Course.{Met, taken, at_end, refused, Course}
use Rattle.pieces.specs.AsCoded.Window.{Passed, turns}

-- ---- one field

-- what is answered, and what is left of the run and of the page
pub record FieldLeft (Run : Type 0) : Type 0 where
  pub answer : Result (Option ℕ) ℕ
  pub run : Run
  pub page : Put

-- a refusal is told by its number
abbrev pub numbered : {A : Type 0} → Result A Refusal → Result A ℕ
numbered (Ok outcome) = Ok outcome
numbered (Err refusal) = Err (number_of refusal)

abbrev pub field_left : {Run : Type 0} → Result (Option ℕ) Refusal → Run → Put → FieldLeft Run
field_left answer run page = record { answer = numbered answer; run = run; page = page }

abbrev pub field_taken : {Run : Type 0} → ℕ → Run → Put → FieldLeft Run
field_taken next new page = record { answer = Ok (Some next); run = new; page = page }

-- none is
abbrev pub not_taken : {Run : Type 0} → Result (Option ℕ) ℕ → Run → Put → FieldLeft Run
not_taken answer old page = record { answer = answer; run = old; page = page }

-- a field that is taken, with its line; else nothing changes
unfoldable pub field_run : {Run : Type 0} → Met Run → Run → Put → FieldLeft Run
field_run (taken next line new) old page =
    field_taken next new (line_written page.bytes page.next line)
field_run at_end old page = not_taken (Ok None) old page
field_run (refused number) old page = not_taken (Err number) old page

-- ---- a call

-- the run, its memory and the buffer are lent
abbrev pub passed_of : {Run : Type 0} → Run → HeldPassed → List ℕ → Passed Run
passed_of new left out =
    record { run = new; at = left.at; put = left.put; out = out; stop = left.stop }

-- ---- some fields at once

-- a run at a place of the window, that goes on
abbrev pub going_at : {Run : Type 0} → Run → ℕ → ℕ → List ℕ → Passed Run
going_at old at put out = record { run = old; at = at; put = put; out = out; stop = Going }

-- some turns are taken at once: those that are left lead where all of them led, and one is left at
-- least
pub record TurnsTaken {Run : Type 0} (course : Course Run) (window : List ℕ) (room most : ℕ)
    (old : Run) (at : ℕ) (left : ℕ) (new : Run) (next : ℕ) : Type 0 where
  pub fewer : left ≤ most
  pub some_left : 0 < most → 0 < left
  pub leads : (last : Bool) (put : ℕ) (out : List ℕ) → room ≡ length out - put
      → turns course left window last (going_at new next put out)
      ≡ turns course most window last (going_at old at put out)
