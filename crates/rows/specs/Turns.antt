-- What a row of data words is to a run: as many turns, and nothing is printed (`TurnsTaken` of
-- `pieces`). Definitions only. Assumes nothing.
use Rattle.std.specs.Prelude.{◌≡◌, Bool, Some, List, [], ◌∷◌, ℕ, suc, ◌+◌}
use Rattle.bus.specs.declared.word.Word.{Word}
use Rattle.bus.specs.DataWords.{DataWord}
use Rattle.recording.specs.AsCoded.Found.{found, word_found}
use Rattle.pieces.specs.LastLine.{counted}
use Rattle.pieces.specs.Course.{taken, Course}
use Rattle.rows.specs.Row.{marks_on, word_there}

-- what a program brings whose runs take rows: its run by what hears the words and by its counts,
-- what words do to that, and when so many words are wanted on a line
pub record Hearing {Run Machine : Type 0} (course : Course Run) (run : Machine → ℕ → ℕ → Run)
    (hears : List Word → Machine → Machine) (Wants : Bool → ℕ → Machine → Type 0) : Type 0 where
  -- words are heard one after the other
  pub none_heard : (old : Machine) → hears [] old ≡ old
  pub one_heard : (heard : Word) (more : List Word) (old : Machine)
      → hears (heard ∷ more) old ≡ hears more (hears (heard ∷ []) old)
  -- a data word that is wanted is a field that prints nothing, and one word fewer is wanted then
  pub is_met : (line : Bool) (more : ℕ) (old : Machine) (fields offset : ℕ) (window : List ℕ)
      (at value next : ℕ) → Wants line (suc more) old
      → word_found window at (marks_on line) ≡ Some (found value next)
      → course.meets (run old fields offset) window at
      ≡ taken next [] (run (hears (word_there window line at value ∷ []) old)
      (counted (fields + 1)) (counted (offset + 10)))
  pub wants_on : (line : Bool) (more : ℕ) (old : Machine) (heard : Word)
      → Wants line (suc more) old → DataWord line heard
      → Wants line more (hears (heard ∷ []) old)
