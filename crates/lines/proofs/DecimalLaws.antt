-- The laws of decimal numbers in `specs/Digits.antt`: the digits read back to the number, more
-- places change nothing, and there is no leading zero. Assumes nothing.
use mathlib.Core.Path.{◌≡◌, refl}
use mathlib.Core.List.{List, [], ◌∷◌, ◌++◌}
use Prim.Native.Nat.{ℕ, zero, suc, ◌+◌, ◌-◌, ◌*◌, ◌/◌, ◌%◌, ◌^◌, ◌≤◌, ◌<◌}
use native.Mathlib.Nat.{pow-suc}
use native.Mathlib.Decide.{dec_lt}
use native.Mathlib.Omega.{arith}
use lib.ListN.{length, get_or, length-append, get_or-append}
use borrow.Author.Tests.{lt-ltb, le-ltb}
use Rattle.lines.specs.Digits.{decimal_by, decimal_places, decimal}

-- ---- the two ways of a digit

pub no_places : (number : ℕ) → decimal_by 0 number ≡ []
unfolding decimal_by
no_places number = refl

module _ (places number : ℕ) where
  pub one_digit : number < 10 → decimal_by (suc places) number ≡ (48 + number) ∷ []
  unfolding decimal_by
  one_digit below = rw (lt-ltb number 10 below)

  pub tens_and_digit : 10 ≤ number
      → decimal_by (suc places) number
      ≡ decimal_by places (number / 10) ++ ((48 + number % 10) ∷ [])
  unfolding decimal_by
  tens_and_digit above = rw (le-ltb number 10 above)

  -- the tens need one place less
  tens_fit : number < 10 ^ suc places → number / 10 < 10 ^ places
  tens_fit fits = omega (arith, pow-suc 10 places)

-- ---- read back

-- the number that digits stand for, read from the left behind a value
abbrev pub value_on : ℕ → List ℕ → ℕ
value_on value [] = value
value_on value (digit ∷ digits) = value_on (value * 10 + (digit - 48)) digits

abbrev pub value_of : List ℕ → ℕ
value_of digits = value_on 0 digits

value_on_append : (value : ℕ) (digits more : List ℕ)
    → value_on value (digits ++ more) ≡ value_on (value_on value digits) more
value_on_append value [] more = refl
value_on_append value (digit ∷ digits) more =
    value_on_append (value * 10 + (digit - 48)) digits more

pub reads_back : (places number : ℕ) → number < 10 ^ places
    → value_of (decimal_by places number) ≡ number
reads_back zero number fits = rw (no_places number) (omega arith)
reads_back (suc places) number fits =
    elim (dec_lt number 10) [
      | yes below ↦ rw (one_digit places number below) (omega arith)
      | no above ↦
          let tens : value_of (decimal_by places (number / 10)) ≡ number / 10 =
          reads_back places (number / 10) (tens_fit places number fits) in
          rw (
            tens_and_digit places number (omega arith),
            value_on_append 0 (decimal_by places (number / 10)) ((48 + number % 10) ∷ []),
            tens,
          )
          (omega arith)
    ]

-- every number of 64 bits
pub decimal_reads_back : (number : ℕ) → number < 2 ^ 64 → value_of (decimal number) ≡ number
unfolding decimal
decimal_reads_back number fits = reads_back decimal_places number (omega arith)

-- ---- any count of places that holds the number gives the same digits

takes_a_place : (places number : ℕ) → 1 ≤ number → number < 10 ^ places → 1 ≤ places
takes_a_place zero number some fits = omega arith
takes_a_place (suc places) number some fits = omega arith

pub any_places : (places others number : ℕ) → 1 ≤ places → 1 ≤ others
    → number < 10 ^ places → number < 10 ^ others
    → decimal_by places number ≡ decimal_by others number
any_places zero others number some some' fits fits' = absurd (omega arith)
any_places (suc places) zero number some some' fits fits' = absurd (omega arith)
any_places (suc places) (suc others) number some some' fits fits' =
    elim (dec_lt number 10) [
      | yes below ↦ rw (one_digit places number below, one_digit others number below)
      | no above ↦
          let tens : number / 10 < 10 ^ places = tens_fit places number fits in
          let tens' : number / 10 < 10 ^ others = tens_fit others number fits' in
          let same : decimal_by places (number / 10) ≡ decimal_by others (number / 10) =
          any_places places others (number / 10)
          (takes_a_place places (number / 10) (omega arith) tens)
          (takes_a_place others (number / 10) (omega arith) tens')
          tens tens' in
          rw (
            tens_and_digit places number (omega arith),
            tens_and_digit others number (omega arith),
            same,
          )
    ]

-- ---- lengths

pub digits_at_most : (places number : ℕ) → length (decimal_by places number) ≤ places
digits_at_most zero number = rw (no_places number) (omega arith)
digits_at_most (suc places) number =
    elim (dec_lt number 10) [
      | yes below ↦ rw (one_digit places number below) (omega arith)
      | no above ↦
          rw (tens_and_digit places number (omega arith))
          (omega (
            arith,
            length-append (decimal_by places (number / 10)) ((48 + number % 10) ∷ []),
            digits_at_most places (number / 10),
          ))
    ]

pub digits_at_least : (places number : ℕ) → 1 ≤ places → 1 ≤ length (decimal_by places number)
digits_at_least zero number some = omega arith
digits_at_least (suc places) number some =
    elim (dec_lt number 10) [
      | yes below ↦ rw (one_digit places number below) (omega arith)
      | no above ↦
          rw (tens_and_digit places number (omega arith))
          (omega (
            arith,
            length-append (decimal_by places (number / 10)) ((48 + number % 10) ∷ []),
          ))
    ]

pub length_decimal : (number : ℕ) → length (decimal number) ≤ decimal_places
unfolding decimal
length_decimal number = digits_at_most decimal_places number

-- ---- a number other than 0 does not begin with the digit 0, which is the byte 48

pub first_digit : (places number : ℕ) → 1 ≤ number → number < 10 ^ places
    → get_or (decimal_by places number) 0 0 ≡ 48 → ⊥
first_digit zero number some fits is = omega arith
first_digit (suc places) number some fits is =
    elim (dec_lt number 10) [
      | yes below ↦
          omega (arith, rw (one_digit places number below) at is)
      | no above ↦
          let tens : number / 10 < 10 ^ places = tens_fit places number fits in
          let front : get_or (decimal_by places (number / 10) ++ ((48 + number % 10) ∷ [])) 0 0
          ≡ get_or (decimal_by places (number / 10)) 0 0 =
          get_or-append (decimal_by places (number / 10)) ((48 + number % 10) ∷ []) 0 0
          (digits_at_least places (number / 10)
          (takes_a_place places (number / 10) (omega arith) tens)) in
          first_digit places (number / 10) (omega arith) tens
          (rw (tens_and_digit places number (omega arith), front) at is)
    ]

pub no_leading_zero : (number : ℕ) → 1 ≤ number → number < 2 ^ 64
    → get_or (decimal number) 0 0 ≡ 48 → ⊥
unfolding decimal
no_leading_zero number some fits = first_digit decimal_places number some (omega arith)
