-- The laws of `specs/Row.antt`: how many words a row gives and gets. Assumes nothing.
use mathlib.Core.Bool.{Bool}
use Prim.Native.Nat.{ℕ, ◌≤◌}
use native.Mathlib.Omega.{arith}
use Rattle.formats.specs.declared.row.Row.{Row}
use Rattle.formats.specs.declared.row.Row.TheVariants.{
  ToTerminal,
  FromTerminal,
  Between,
  ModeAlone,
  ModeWithWord,
  ModeForWord,
}
use Rattle.formats.specs.Row.{format_of, last_cell, highest_cell}

-- ---- bounds: a command and 32 words are given at the most, and 32 words come back

pub given_at_most : (row : Row) (broadcast : Bool) (n : ℕ) → n ≤ 32
    → (format_of row broadcast n).given ≤ 33
unfolding format_of
given_at_most ToTerminal broadcast n few = omega (arith, few)
given_at_most FromTerminal broadcast n few = omega arith
given_at_most Between broadcast n few = omega arith
given_at_most ModeAlone broadcast n few = omega arith
given_at_most ModeWithWord broadcast n few = omega arith
given_at_most ModeForWord broadcast n few = omega arith

pub reply_at_most : (row : Row) (broadcast : Bool) (n : ℕ) → n ≤ 32
    → (format_of row broadcast n).reply ≤ 32
unfolding format_of
reply_at_most ToTerminal broadcast n few = omega arith
reply_at_most FromTerminal broadcast n few = few
reply_at_most Between broadcast n few = few
reply_at_most ModeAlone broadcast n few = omega arith
reply_at_most ModeWithWord broadcast n few = omega arith
reply_at_most ModeForWord broadcast n few = omega arith

-- no word stands above the highest cell
pub last_at_most : (row : Row) (broadcast : Bool) (n : ℕ) → n ≤ 32
    → last_cell (format_of row broadcast n) ≤ highest_cell
unfolding format_of
last_at_most ToTerminal broadcast n few = omega (arith, few)
last_at_most FromTerminal broadcast n few = omega (arith, few)
last_at_most Between broadcast n few = omega (arith, few)
last_at_most ModeAlone broadcast n few = omega arith
last_at_most ModeWithWord broadcast n few = omega arith
last_at_most ModeForWord broadcast n few = omega arith
