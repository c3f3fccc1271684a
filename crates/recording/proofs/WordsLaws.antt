-- The words of a host write: their number, and how they are written, one by one. Assumes nothing.
use mathlib.Core.Path.{◌≡◌, refl, sym, ap, ◌∙◌}
use mathlib.Core.List.{List}
use Prim.Native.Nat.{ℕ, zero, suc, ◌+◌, ◌-◌, ◌*◌, ◌≤◌, ◌<◌}
use native.Mathlib.Omega.{arith}
use lib.ListN.{length, set}
use lib.Seq.{sets, set_out}
use borrow.Author.Tests.{le-leb, lt-leb}
use Rattle.recording.specs.Bytes.{bytes_left, word_at, words_at, most_written, with_written}

pub length_words_at : (bytes : List ℕ) (first count : ℕ)
    → length (words_at bytes first count) ≡ count
length_words_at bytes first zero = refl
length_words_at bytes first (suc count) = ap suc (length_words_at bytes (first + 2) count)

module _ (ram bytes : List ℕ) (address first count : ℕ) where
  pub too_many_written : most_written < count → ram ≡ with_written ram address bytes first count
  unfolding with_written
  too_many_written many = rw (lt-leb count most_written many)

  module _ (few : count ≤ most_written) where
    pub not_there_written : bytes_left bytes first < 2 * count
        → ram ≡ with_written ram address bytes first count
    unfolding with_written
    not_there_written short =
        rw (le-leb count most_written few, lt-leb (2 * count) (bytes_left bytes first) short)

    -- all are there
    pub words_written : 2 * count ≤ bytes_left bytes first
        → with_written ram address bytes first count ≡ sets ram address (words_at bytes first count)
    unfolding with_written
    words_written there =
        rw (le-leb count most_written few, le-leb (2 * count) (bytes_left bytes first) there)

-- ---- the loop: the words that are left take the memory as it is to what is wanted

pub record Writing (wanted ram bytes : List ℕ) (address first count word : ℕ) : Type 0 where
  pub leads : wanted ≡ sets ram (address + word) (words_at bytes (first + 2 * word) (count - word))

module _ (ram bytes : List ℕ) (address first count : ℕ) where
  pub writing_all : count ≤ most_written → 2 * count ≤ bytes_left bytes first
      → Writing (with_written ram address bytes first count) ram bytes address first count 0
  writing_all few there =
      let from : address + 0 ≡ address = omega arith in
      let start : first + 2 * 0 ≡ first = omega arith in
      let all : count - 0 ≡ count = omega arith in
      record {
        leads = words_written ram bytes address first count few there ∙ rw (from, start, all);
      }

module _ {wanted ram bytes : List ℕ} {address first count word : ℕ}
    (writing : Writing wanted ram bytes address first count word) where
  -- a word is written
  pub writing_less : (value : ℕ) (ram' : List ℕ) → word < count
      → value ≡ word_at bytes (first + 2 * word) → ram' ≡ set ram (address + word) value
      → Writing wanted ram' bytes address first count (word + 1)
  writing_less value ram' more is_value is =
      let fewer : count - word ≡ suc (count - (word + 1)) = omega arith in
      let next : first + 2 * word + 2 ≡ first + 2 * (word + 1) = omega arith in
      let further : address + (word + 1) ≡ suc (address + word) = omega arith in
      record { leads = writing.leads ∙ rw (fewer, next, is, is_value, further) }

  -- past the end of memory none is
  pub writing_past : (ram' : List ℕ) → word < count → length ram ≤ address + word → ram' ≡ ram
      → Writing wanted ram' bytes address first count (word + 1)
  writing_past ram' more past same =
      let value : ℕ = word_at bytes (first + 2 * word) in
      writing_less value ram' more refl (same ∙ sym (set_out ram (address + word) value past))
