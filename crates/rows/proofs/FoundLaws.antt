-- The words that are found: data words on the line, no more than are looked for, ten bytes each.
-- Assumes nothing.
use mathlib.Core.Path.{◌≡◌, refl}
use mathlib.Core.Bool.{Bool, true, false}
use mathlib.Core.List.{List}
use Rattle.std.proofs.Common.{Option, Some, None}
use Prim.Native.Nat.{ℕ, zero, suc, ◌+◌, ◌≤◌}
use native.Mathlib.Omega.{arith}
use lib.ListN.{length}
use Rattle.bus.specs.Limits.{all_marks}
use Rattle.bus.specs.Word.{word_of}
use Rattle.bus.specs.DataWords.{DataWord, DataWords, no_words, a_word}
use Rattle.recording.specs.declared.words.Found.{Found}
use Rattle.recording.specs.AsCoded.Found.{found, word_found}
use Rattle.recording.specs.Seen.{setup_seen}
use Rattle.recording.proofs.FoundLaws.{found_moves_on}
use Rattle.rows.specs.Row.{marks_on, found_then, words_found}

pub marks_few : (line : Bool) → marks_on line ≤ all_marks
marks_few true = omega arith
marks_few false = omega arith

-- a word that is found moves on by ten bytes
pub found_next : (bytes : List ℕ) (line : Bool) (at value next : ℕ)
    → word_found bytes at (marks_on line) ≡ Some (found value next) → next ≡ at + 10
found_next bytes line at value next is =
    found_moves_on bytes at (marks_on line) (marks_few line) setup_seen refl is

-- it is a data word on the line
pub is_data_word : (line : Bool) (value time : ℕ)
    → DataWord line (word_of (marks_on line) value time)
is_data_word true value time =
    record { of_data = refl; sound = refl; joined = refl; same_line = refl }
is_data_word false value time =
    record { of_data = refl; sound = refl; joined = refl; same_line = refl }

module _ (bytes : List ℕ) (line : Bool) where
  pub found_are_data : (fuel at : ℕ) → DataWords line (words_found fuel bytes line at)
  unfolding words_found
  found_are_data zero at = no_words
  found_are_data (suc fuel) at = go (found_are_data fuel) (word_found bytes at (marks_on line))
    where
      go : ((next : ℕ) → DataWords line (words_found fuel bytes line next)) → (there : Option Found)
          → DataWords line (found_then there (words_found fuel bytes line) bytes line at)
      go shorter None = no_words
      go shorter (Some word) = a_word (is_data_word line word.value _) (shorter word.next)

  pub found_at_most : (fuel at : ℕ) → length (words_found fuel bytes line at) ≤ fuel
  unfolding words_found
  found_at_most zero at = omega arith
  found_at_most (suc fuel) at = go (found_at_most fuel) (word_found bytes at (marks_on line))
    where
      go : ((next : ℕ) → length (words_found fuel bytes line next) ≤ fuel) → (there : Option Found)
          → length (found_then there (words_found fuel bytes line) bytes line at) ≤ suc fuel
      go shorter None = omega arith
      go shorter (Some word) = omega (arith, shorter word.next)
