-- How long each line is: none is longer than the room that it is given. Assumes nothing.
use mathlib.Core.Path.{◌≡◌, refl}
use mathlib.Core.Bool.{Bool, cond}
use mathlib.Core.List.{List, [], ◌∷◌, ◌++◌}
use Prim.Native.Nat.{ℕ, ◌+◌, ◌*◌, ◌≤◌}
use native.Mathlib.Omega.{arith}
use lib.ListN.{length, length-append}
use Rattle.lines.specs.Digits.{hex_byte, hex_word, decimal}
use Rattle.lines.specs.Lines.{
  blank,
  newline,
  each_word,
  status_line,
  queue_line,
  end_line,
  numbers_line,
  refusal_line,
  given_line,
  result_line,
}
use Rattle.lines.specs.Written.{line_room, most_words, most_given}
use Rattle.lines.proofs.DecimalLaws.{length_decimal}

pub length_hex_byte : (byte : ℕ) → length (hex_byte byte) ≡ 2
unfolding hex_byte
length_hex_byte byte = refl

pub length_hex_word : (word : ℕ) → length (hex_word word) ≡ 4
unfolding hex_word
length_hex_word word = refl

length_each_word : (words : List ℕ) → length (each_word words) ≡ 5 * length words
unfolding each_word
length_each_word [] = refl
length_each_word (word ∷ words) =
    omega (
      arith,
      length-append (hex_word word) (each_word words),
      length_hex_word word,
      length_each_word words,
    )

pub status_bytes : (status : ℕ) (words : List ℕ)
    → length (status_line status words) ≡ 7 + 5 * length words
unfolding status_line
status_bytes status words =
    omega (
      arith,
      length-append (hex_word status) (each_word words ++ (newline ∷ [])),
      length-append (each_word words) (newline ∷ []),
      length_hex_word status,
      length_each_word words,
    )

pub length_status_line : (status : ℕ) (words : List ℕ) → length words ≤ most_words
    → length (status_line status words) ≤ line_room
length_status_line status words few = omega (arith, status_bytes status words)

pub queue_bytes : (word : ℕ) → length (queue_line word) ≡ 7
unfolding queue_line
queue_bytes word =
    omega (arith, length-append (hex_word word) (newline ∷ []), length_hex_word word)

pub length_queue_line : (word : ℕ) → length (queue_line word) ≤ line_room
length_queue_line word = omega (arith, queue_bytes word)

pub length_end_line : (fields : ℕ) → length (end_line fields) ≤ line_room
unfolding end_line
length_end_line fields =
    omega (arith, length-append (decimal fields) (newline ∷ []), length_decimal fields)

length_numbers_line : (letter one other : ℕ) → length (numbers_line letter one other) ≤ line_room
length_numbers_line letter one other =
    omega (
      arith,
      length-append (decimal one) (blank ∷ (decimal other ++ (newline ∷ []))),
      length-append (decimal other) (newline ∷ []),
      length_decimal one,
      length_decimal other,
    )

pub length_refusal_line : (number offset : ℕ) → length (refusal_line number offset) ≤ line_room
unfolding refusal_line
length_refusal_line number offset = length_numbers_line 33 number offset

pub length_result_line : (code : ℕ) (mark : Bool) → length (result_line code mark) ≤ line_room
unfolding result_line
length_result_line code mark = length_numbers_line 82 code (cond mark 1 0)

pub length_given_line : (words : List ℕ) → length words ≤ most_given
    → length (given_line words) ≤ line_room
unfolding given_line
length_given_line words few =
    omega (arith, length-append (each_word words) (newline ∷ []), length_each_word words)
