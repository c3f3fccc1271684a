-- What the last arm of a `match` on a number knows, where the arms before it name numbers that
-- follow one another: the number is none of them. Assumes nothing.
use mathlib.Core.Path.{◌≡◌}
use Prim.Native.Nat.{ℕ, zero, suc, ◌+◌, ◌≤◌}
use native.Mathlib.Omega.{arith}

-- as the prover hands it over: a pair for each of `count` arms, the last one outermost
abbrev pub NoneFrom : (start number count : ℕ) → Type 0
NoneFrom start number zero = Unit
NoneFrom start number (suc count) = NoneFrom start number count × (number ≡ start + count → ⊥)

pub none_from : (start number count : ℕ)
    → start ≤ number → NoneFrom start number count → start + count ≤ number
none_from start number zero least none = omega (arith, least)
none_from start number (suc count) least none =
    let so_far : start + count ≤ number = none_from start number count least none.0 in
    let other : number ≡ start + count → ⊥ = none.1 in
    omega arith

-- where they name 0, 1 and so on
abbrev pub NoneBelow : ℕ → ℕ → Type 0
NoneBelow number bound = NoneFrom 0 number bound

pub none_below : (number bound : ℕ) → NoneBelow number bound → bound ≤ number
none_below number bound none =
    let past : 0 + bound ≤ number = none_from 0 number bound (omega arith) none in
    omega arith
