-- What holds of each way that a definition by tests can take holds of what it gives. Assumes
-- nothing.
use mathlib.Core.Path.{◌≡◌, refl}
use mathlib.Core.Bool.{Bool, true, false, cond}

module _ {A : Type 0} where
  -- a claim of a choice, by the test
  pub by_test : (Claim : A → Type 0) {taken left : A} (test : Bool)
      → (test ≡ true → Claim taken) → (test ≡ false → Claim left)
      → Claim (cond test taken left)
  by_test Claim true holds fails = holds refl
  by_test Claim false holds fails = fails refl

-- a choice under a function
pub choice_under : {A B : Type 0} (change : A → B) {taken left : A} {taken' left' : B}
    (test : Bool) → taken' ≡ change taken → left' ≡ change left
    → cond test taken' left' ≡ change (cond test taken left)
choice_under change true same_taken same_left = same_taken
choice_under change false same_taken same_left = same_left
