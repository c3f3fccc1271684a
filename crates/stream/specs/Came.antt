-- How a run of standard input came to stop. What was read, and whether lines were taken, is the
-- operating system's word, and no contract can name it: each claim here is of some input and some
-- text, and `whole` is told. Definitions only. Assumes nothing.
use Rattle.std.specs.Prelude.{◌≡◌, ◌≢◌, Bool, true, false, List, ℕ, ◌≤◌}
use Rattle.pieces.specs.declared.stop.Stop.TheVariants.{Hungry, Over}
use Rattle.pieces.specs.Course.{Course}
use Rattle.pieces.specs.AsCoded.Window.{Passed}
use Rattle.stream.specs.Progress.{Far, call_at, Progressed, turns_for}

-- the last call came to `new`; before it the program had come so far
pub record LastCall {Run : Type 0} (course : Course Run) (start new : Run) : Type 0 where
  pub turns : ℕ
  pub before : Far Run
  pub progressed : Progressed course start turns before
  pub out : List ℕ
  pub is_new : new ≡ (call_at course before out).run

abbrev pub the_call : {Run : Type 0} {course : Course Run} {start new : Run}
    → LastCall course start new → Passed Run
the_call {Run} {course} last = call_at course last.before last.out

-- as many turns as 64 bits count
abbrev pub all_turns : ℕ
all_turns = 18446744073709551615

-- `Came course start new whole`: a run that began at `start` stopped at `new`, whole or not
pub data Came {Run : Type 0} (course : Course Run) (start new : Run) : Bool → Type 0 where
  -- it is whole: a call ended it
  finished : (last : LastCall course start new) → (the_call last).stop ≡ Over
      → Came course start new true
  -- the lines of a call were not all taken, be they the last of the run
  broken_off : (last : LastCall course start new) → (the_call last).put ≢ 0
      → Came course start new false
  -- a call needed bytes, and the read for them failed: there is no last line
  unread : (last : LastCall course start new) → (the_call last).stop ≡ Hungry
      → Came course start new false
  -- no turn was left: so much was read and taken that each turn had its part of it
  spent : (far : Far Run) → Progressed course start all_turns far → all_turns ≤ turns_for far
      → new ≡ far.run → Came course start new false
