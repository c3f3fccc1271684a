-- `shown::cells::put_cells` meets its contract: the cells below the address are put.
-- Assumes nothing.
use lib.ListN.{take}
use Rattle.shown.specs.Text.{Fits}
use Rattle.shown.specs.Cells.{cell_lines}
use Rattle.shown.proofs.cells.put_cells.Given as goal

abbrev pub invariant-loop-address : goal.invariant-loop-address
invariant-loop-address l = Fits l.initial.page (cell_lines 0 (take l.address l.ram)) l.page
