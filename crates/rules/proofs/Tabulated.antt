-- A table whose rule is computed once: a list that is a function's values, one after the other,
-- holds the function's value at each place. Assumes nothing.
use mathlib.Core.Path.{◌≡◌, sym, ap, ◌∙◌}
use mathlib.Core.List.{List, [], ◌∷◌}
use Prim.Native.Nat.{ℕ, zero, suc, ◌+◌, ◌<◌}
use native.Mathlib.Nat.{add-zero, add-suc, zero-add, suc-add, le_of_suc-le-suc, not-suc-le-zero}
use lib.ListN.{get_or}

module _ {A : Type 0} where
  -- the function's values from `start` on
  abbrev pub tabulate : (ℕ → A) → ℕ → ℕ → List A
  tabulate rule start zero = []
  tabulate rule start (suc count) = rule start ∷ tabulate rule (suc start) count

  from : (rule : ℕ → A) (start count place : ℕ) (past : A) → place < count
      → get_or (tabulate rule start count) place past ≡ rule (start + place)
  from rule start zero place past inside = absurd (not-suc-le-zero inside)
  from rule start (suc count) zero past inside = rw (add-zero start)
  from rule start (suc count) (suc place) past inside =
      from rule (suc start) count place past (le_of_suc-le-suc inside)
      ∙ ap rule (suc-add start place ∙ sym (add-suc start place))

  pub at_each_place : (rule : ℕ → A) (table : List A) (count place : ℕ) (past : A)
      → table ≡ tabulate rule 0 count → place < count → get_or table place past ≡ rule place
  at_each_place rule table count place past computed inside =
      ap (λ (values : List A). get_or values place past) computed
      ∙ from rule 0 count place past inside ∙ ap rule (zero-add place)
