-- A command has 32 words at the most. Assumes nothing.
use mathlib.Core.Bool.{Bool, true, false, cond}
use Prim.Native.Nat.{ℕ, ◌%◌, ◌≤◌}
use native.Mathlib.Omega.{arith}
use lib.Dec.{eqb}
use Rattle.bus.specs.Command.{words_of}

-- a word count of 0 means 32
pub words_at_most : (command : ℕ) → words_of command ≤ 32
words_at_most command = go (eqb (command % 32) 0)
  where
    go : (none : Bool) → cond none 32 (command % 32) ≤ 32
    go true = omega arith
    go false = omega arith
