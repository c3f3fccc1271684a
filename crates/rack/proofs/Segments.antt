-- The data words of a segment are a row of data words on its line. Assumes nothing.
use mathlib.Core.Path.{◌≡◌, refl, ap}
use mathlib.Core.Bool.{Bool}
use mathlib.Core.List.{List, [], ◌∷◌}
use Prim.Native.Nat.{ℕ, suc}
use lib.ListN.{length}
use Rattle.bus.specs.DataWords.{DataWords, no_words, a_word, values_of}
use Rattle.rack.specs.Segment.{data_words}

module _ (line : Bool) (time : ℕ → ℕ) where
  pub values_of_data : (words : List ℕ) (place : ℕ)
      → values_of (data_words line time place words) ≡ words
  unfolding data_words
  values_of_data [] place = refl
  values_of_data (value ∷ words) place =
      ap (λ (values : List ℕ). value ∷ values) (values_of_data words (suc place))

  pub length_of_data : (words : List ℕ) (place : ℕ)
      → length (data_words line time place words) ≡ length words
  unfolding data_words
  length_of_data [] place = refl
  length_of_data (value ∷ words) place =
      ap (λ (count : ℕ). suc count) (length_of_data words (suc place))

  pub all_of_data : (words : List ℕ) (place : ℕ) → DataWords line (data_words line time place words)
  unfolding data_words
  all_of_data [] place = no_words
  all_of_data (value ∷ words) place =
      a_word (record { of_data = refl; sound = refl; joined = refl; same_line = refl })
      (all_of_data words (suc place))
