-- What a caller wants of each public contract: the next place lies in the buffer, if the place that
-- was given does. Then `&out[0..next]` is there, and more can follow. These are rules for `omega`:
-- a caller's proof says `omega (arith, places)`. Assumes nothing.
use mathlib.Core.Path.{◌≡◌, ap}
use mathlib.Core.List.{List}
use Prim.Native.Nat.{ℕ, ◌≤◌, max}
use native.Mathlib.Nat.{le_refl}
use native.Mathlib.Omega.{arith}
use lib.ListN.{length}
use Rattle.lines.specs.Digits.{hex_byte, hex_word, decimal, decimal_places}
use Rattle.lines.specs.Lines.{queue_line, end_line, refusal_line}
use Rattle.lines.specs.Written.{Put, put, written, line_room, line_written, status_written}
use Rattle.lines.proofs.DecimalLaws.{length_decimal}
use Rattle.lines.proofs.Lengths.{
  length_hex_byte,
  length_hex_word,
  length_queue_line,
  length_end_line,
  length_refusal_line,
}
use Rattle.lines.proofs.WrittenLaws.{
  length_written,
  next_written,
  length_status_written,
  next_status_written,
}

module _ (out : List ℕ) (at : ℕ) {after : List ℕ} {next : ℕ} where
  -- any text that is not longer than the room that it is given
  pub within : (room : ℕ) (text : List ℕ) → length text ≤ room
      → put next after ≡ written room out at text → next ≤ max at (length after)
  within room text fits is =
      omega (
        arith,
        ap (λ (left : Put). left.next) is,
        ap (λ (left : Put). length left.bytes) is,
        length_written room out at text,
        next_written room out at text fits,
      )

  pub status_line_place : (status : ℕ) (words : List ℕ)
      → put next after ≡ status_written out at status words → next ≤ max at (length after)
  status_line_place status words is =
      omega (
        arith,
        ap (λ (left : Put). left.next) is,
        ap (λ (left : Put). length left.bytes) is,
        length_status_written out at status words,
        next_status_written out at status words,
      )

  pub queue_line_place : (word : ℕ)
      → put next after ≡ line_written out at (queue_line word) → next ≤ max at (length after)
  queue_line_place word = within line_room (queue_line word) (length_queue_line word)

  pub end_line_place : (fields : ℕ)
      → put next after ≡ line_written out at (end_line fields) → next ≤ max at (length after)
  end_line_place fields = within line_room (end_line fields) (length_end_line fields)

  pub refusal_line_place : (number offset : ℕ)
      → put next after ≡ line_written out at (refusal_line number offset)
      → next ≤ max at (length after)
  refusal_line_place number offset =
      within line_room (refusal_line number offset) (length_refusal_line number offset)

  pub text_place : (text : List ℕ)
      → put next after ≡ written (length text) out at text → next ≤ max at (length after)
  text_place text = within (length text) text (le_refl (length text))

  pub hex_byte_place : (byte : ℕ)
      → put next after ≡ written 2 out at (hex_byte byte) → next ≤ max at (length after)
  hex_byte_place byte = within 2 (hex_byte byte) (omega (arith, length_hex_byte byte))

  pub hex_word_place : (word : ℕ)
      → put next after ≡ written 4 out at (hex_word word) → next ≤ max at (length after)
  hex_word_place word = within 4 (hex_word word) (omega (arith, length_hex_word word))

  pub decimal_place : (number : ℕ)
      → put next after ≡ written decimal_places out at (decimal number)
      → next ≤ max at (length after)
  decimal_place number = within decimal_places (decimal number) (length_decimal number)

pub ruleset places = (
  status_line_place,
  queue_line_place,
  end_line_place,
  refusal_line_place,
  text_place,
  hex_byte_place,
  hex_word_place,
  decimal_place,
)
