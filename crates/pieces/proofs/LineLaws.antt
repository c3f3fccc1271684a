-- The laws of `specs/LastLine.antt`: what it is, and that it fits into its room and is never empty.
-- Assumes nothing.
use mathlib.Core.Path.{◌≡◌}
use mathlib.Core.Bool.{Bool, true, false, cond}
use Prim.Native.Nat.{ℕ, ◌≤◌, ◌<◌}
use native.Mathlib.Omega.{arith}
use lib.Dec.{eqb}
use lib.ListN.{length}
use borrow.Author.Tests.{ne_eqb}
use Rattle.lines.specs.Lines.{end_line, refusal_line}
use Rattle.lines.specs.Page.{Leaves, line_on}
use Rattle.lines.specs.declared.Page.{Page}
use Rattle.lines.specs.Written.{line_room}
use Rattle.lines.proofs.Lengths.{length_end_line, length_refusal_line}
use Rattle.pieces.specs.LastLine.{last_line}

-- ---- as it is printed

module _ (old new : Page) (number fields offset : ℕ) where
  pub end_line_lem : number ≡ 0 → Leaves old new (line_on old (end_line fields))
      → Leaves old new (line_on old (last_line number fields offset))
  unfolding last_line
  end_line_lem is printed = rw is printed

  pub refusal_line_lem : (number ≡ 0 → ⊥)
      → Leaves old new (line_on old (refusal_line number offset))
      → Leaves old new (line_on old (last_line number fields offset))
  unfolding last_line
  refusal_line_lem is printed = rw (ne_eqb number 0 is) printed

pub ruleset last_lines = (end_line_lem, refusal_line_lem)

-- ---- its length

pub last_line_fits : (number fields offset : ℕ)
    → length (last_line number fields offset) ≤ line_room
unfolding last_line
last_line_fits number fields offset = go (eqb number 0) where
  go : (test : Bool)
      → length (cond test (end_line fields) (refusal_line number offset)) ≤ line_room
  go true = length_end_line fields
  go false = length_refusal_line number offset

pub last_line_there : (number fields offset : ℕ) → 0 < length (last_line number fields offset)
unfolding last_line end_line refusal_line
last_line_there number fields offset = go (eqb number 0) where
  go : (test : Bool) → 0 < length (cond test (end_line fields) (refusal_line number offset))
  go true = omega arith
  go false = omega arith
