-- `rows::Row::store` meets its contract, by the laws of its loop. Assumes nothing.
use Prim.Native.Nat.{◌-◌}
use Rattle.rows.proofs.StoreLaws.{RowSoFar}
use Rattle.rows.proofs.Row.store.Given as goal

abbrev pub invariant-loop-cell : goal.invariant-loop-cell
invariant-loop-cell l =
    RowSoFar l.bytes l.line l.self.block l.self.end l.initial.cell l.initial.at l.initial.ram
    l.cell l.at l.ram

abbrev pub decreases-loop-cell : goal.decreases-loop-cell
decreases-loop-cell l = l.self.end - l.cell
