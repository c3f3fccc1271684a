-- The laws of `specs/Mode.antt`: what a line of the table tells, and what is past its end.
-- Assumes nothing.
use mathlib.Core.Path.{◌≡◌, sym}
use Prim.Native.Nat.{ℕ, ◌≤◌}
use native.Mathlib.Omega.{arith}
use lib.ListN.{get_or-eq_default}
use Rattle.std.proofs.Common.{Option}
use Rattle.bus.specs.declared.mode.Mode.{Mode}
use Rattle.bus.specs.Mode.{reserved, mode_table, mode_of}

-- what a line tells is the row of its number
pub row_at : {told : Option Mode} {code number : ℕ}
    → code ≡ number → told ≡ mode_of number → told ≡ mode_of code
row_at same row = rw same row

-- past the table's end a code is reserved
pub past_the_table : (code : ℕ) → 22 ≤ code → reserved ≡ mode_of code
unfolding mode_of mode_table
past_the_table code past = sym (get_or-eq_default mode_table reserved {n = code} (omega arith))
