-- What stands in the buffer after a write: what stood before the place, then the text; the buffer
-- is as long as it was, and the next place lies in it. Assumes nothing.
use mathlib.Core.Path.{◌≡◌}
use mathlib.Core.List.{List, ◌++◌}
use Prim.Native.Nat.{ℕ, ◌+◌, ◌-◌, ◌≤◌, ◌<◌, max}
use native.Mathlib.Decide.{dec_le}
use native.Mathlib.Omega.{arith}
use lib.ListN.{length, take, drop, length-append}
use lib.Seq.{sets-eq, length-sets, length-take-le, take_at, drop_at}
use borrow.Author.Tests.{le-leb, lt-leb}
use Rattle.lines.specs.Lines.{status_line, given_line}
use Rattle.lines.specs.Written.{
  put,
  stored,
  written,
  line_room,
  most_words,
  most_given,
  line_written,
  status_written,
  given_written,
}
use Rattle.lines.proofs.Lengths.{length_status_line}

-- ---- with room and without

module _ (room : ℕ) (out : List ℕ) (at : ℕ) (text : List ℕ) where
  pub in_room : room ≤ length out - at → written room out at text ≡ stored out at text
  unfolding written
  in_room enough = rw (le-leb room (length out - at) enough)

  pub out_of_room : length out - at < room → written room out at text ≡ put at out
  unfolding written
  out_of_room short = rw (lt-leb room (length out - at) short)

  -- what stands before the next place is what stood before `at`, then the text
  pub take_written : at ≤ length out → room ≤ length out - at → length text ≤ room
      → take (written room out at text).next (written room out at text).bytes
      ≡ take at out ++ text
  unfolding stored
  take_written inside enough fits =
      let front : length (take at out ++ text) ≡ at + length text =
      omega (arith, length-append (take at out) text, length-take-le at out inside) in
      rw (in_room enough, sets-eq text out at (omega arith))
      (take_at (take at out ++ text) (drop (at + length text) out) (at + length text) front)

  -- .. and behind it all is as it was
  pub drop_written : at ≤ length out → room ≤ length out - at → length text ≤ room
      → drop (written room out at text).next (written room out at text).bytes
      ≡ drop (written room out at text).next out
  unfolding stored
  drop_written inside enough fits =
      rw (in_room enough, sets-eq text out at (omega arith))
      (drop_at (take at out ++ text) (drop (at + length text) out) (at + length text)
      (omega (arith, length-append (take at out) text, length-take-le at out inside)))

  pub length_written : length (written room out at text).bytes ≡ length out
  unfolding stored
  length_written =
      elim (dec_le room (length out - at)) [
        | yes enough ↦ rw (in_room enough) (length-sets out at text)
        | no short ↦ rw (out_of_room (omega arith))
      ]

  -- the next place lies in the buffer, if `at` does
  pub next_written : length text ≤ room → (written room out at text).next ≤ max at (length out)
  unfolding stored
  next_written fits =
      elim (dec_le room (length out - at)) [
        | yes enough ↦ rw (in_room enough) (omega arith)
        | no short ↦ rw (out_of_room (omega arith)) (omega arith)
      ]

-- ---- the status line

module _ (out : List ℕ) (at status : ℕ) (words : List ℕ) where
  pub few_words : length words ≤ most_words
      → status_written out at status words ≡ line_written out at (status_line status words)
  unfolding status_written
  few_words few = rw (le-leb (length words) most_words few)

  pub many_words : most_words < length words → status_written out at status words ≡ put at out
  unfolding status_written
  many_words many = rw (lt-leb (length words) most_words many)

  pub take_status_written : at ≤ length out → line_room ≤ length out - at
      → length words ≤ most_words
      → take (status_written out at status words).next (status_written out at status words).bytes
      ≡ take at out ++ status_line status words
  take_status_written inside enough few =
      rw (few_words few)
      (take_written line_room out at (status_line status words) inside enough
      (length_status_line status words few))

  pub length_status_written : length (status_written out at status words).bytes ≡ length out
  length_status_written =
      elim (dec_le (length words) most_words) [
        | yes few ↦ rw (few_words few) (length_written line_room out at (status_line status words))
        | no many ↦ rw (many_words (omega arith))
      ]

  pub next_status_written : (status_written out at status words).next ≤ max at (length out)
  next_status_written =
      elim (dec_le (length words) most_words) [
        | yes few ↦
            rw (few_words few)
            (next_written line_room out at (status_line status words)
            (length_status_line status words few))
        | no many ↦ rw (many_words (omega arith)) (omega arith)
      ]

-- ---- the line of words given

module _ (out : List ℕ) (at : ℕ) (words : List ℕ) where
  pub few_given : length words ≤ most_given
      → given_written out at words ≡ line_written out at (given_line words)
  unfolding given_written
  few_given few = rw (le-leb (length words) most_given few)

  pub many_given : most_given < length words → given_written out at words ≡ put at out
  unfolding given_written
  many_given many = rw (lt-leb (length words) most_given many)
