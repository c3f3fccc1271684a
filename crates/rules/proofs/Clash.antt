-- What cannot be: `clash (cc)` proves it where `cc` finds, in the facts in scope, two constructors
-- that are said to be the same. Assumes nothing.
use mathlib.Core.Path.{◌≡◌}
use Prim.Native.Nat.{ℕ}
use native.Mathlib.Omega.{arith}

pub clash : ◌≡◌ {A = ℕ} 0 1 → ⊥
clash same = omega arith
