-- A bit of a word, named by its weight: bit 10 has the weight 1,024. Definitions only.
-- Assumes nothing.
use Rattle.std.specs.Prelude.{◌≡◌, Bool, cond, ℕ, ◌/◌, ◌%◌, ◌≤◌, eqb}

-- whether the bit of a word is on
abbrev pub has_bit : ℕ → ℕ → Bool
has_bit word weight = eqb (word / weight % 2) 1

-- what a bit adds to a word
abbrev pub weight_of : Bool → ℕ → ℕ
weight_of on weight = cond on weight 0

-- the number is what the bit adds; the bound follows, and is said so that sums are seen to fit
pub record Weighed (on : Bool) (weight counted : ℕ) : Type 0 where
  pub exactly : counted ≡ weight_of on weight
  pub at_most : counted ≤ weight
