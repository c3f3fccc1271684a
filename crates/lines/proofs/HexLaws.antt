-- The laws of hex digits in `specs/Digits.antt`: the digits read back to the number.
-- Assumes nothing.
use mathlib.Core.Path.{◌≡◌}
use mathlib.Core.Bool.{cond}
use mathlib.Core.List.{List, [], ◌∷◌}
use Prim.Native.Nat.{ℕ, ◌+◌, ◌-◌, ◌*◌, ◌/◌, ◌%◌, ◌<◌}
use native.Mathlib.Decide.{dec_lt}
use native.Mathlib.Omega.{arith}
use lib.Dec.{ltb}
use borrow.Author.Tests.{lt-ltb, le-ltb}
use Rattle.lines.specs.Digits.{hex_digit, hex_byte, hex_word}

-- the number that a digit stands for, and that digits stand for, read from the left behind a value
abbrev pub hex_digit_value : ℕ → ℕ
hex_digit_value digit = cond (ltb digit 65) (digit - 48) (digit - 55)

abbrev pub hex_value_on : ℕ → List ℕ → ℕ
hex_value_on value [] = value
hex_value_on value (digit ∷ digits) = hex_value_on (value * 16 + hex_digit_value digit) digits

abbrev pub hex_value_of : List ℕ → ℕ
hex_value_of digits = hex_value_on 0 digits

pub digit_reads_back : (number : ℕ) → number < 16 → hex_digit_value (hex_digit number) ≡ number
unfolding hex_digit
digit_reads_back number below_16 =
    elim (dec_lt number 10) [
      | yes below ↦
          rw (lt-ltb number 10 below, lt-ltb (48 + number) 65 (omega arith)) (omega arith)
      | no above ↦
          rw (le-ltb number 10 (omega arith), le-ltb (55 + number) 65 (omega arith)) (omega arith)
    ]

pub byte_reads_back : (byte : ℕ) → byte < 256 → hex_value_of (hex_byte byte) ≡ byte
unfolding hex_byte
byte_reads_back byte below =
    rw (
      digit_reads_back (byte / 16 % 16) (omega arith),
      digit_reads_back (byte % 16) (omega arith),
    )
    (omega arith)

pub word_reads_back : (word : ℕ) → word < 65536 → hex_value_of (hex_word word) ≡ word
unfolding hex_word
word_reads_back word below =
    let first : word / 4096 % 16 ≡ word / 4096 = omega arith in
    let second : word / 256 ≡ word / 4096 * 16 + word / 256 % 16 = omega arith in
    let third : word / 16 ≡ word / 256 * 16 + word / 16 % 16 = omega arith in
    let fourth : word ≡ word / 16 * 16 + word % 16 = omega arith in
    rw (
      digit_reads_back (word / 4096 % 16) (omega arith),
      digit_reads_back (word / 256 % 16) (omega arith),
      digit_reads_back (word / 16 % 16) (omega arith),
      digit_reads_back (word % 16) (omega arith),
    )
    (omega arith)
