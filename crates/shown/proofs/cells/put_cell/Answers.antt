-- `shown::cells::put_cell` meets its contract: nothing of a zero, else its parts in turn.
-- Assumes nothing.
use Rattle.std.proofs.Common.{rules}
use Rattle.shown.proofs.CellLaws.{zero_fits, cell_fits}
use Rattle.shown.proofs.cells.put_cell.Goals as goal

pub returns-then-word-eq0 : goal.returns-then-word-eq0
returns-then-word-eq0 c = search (rules, zero_fits)

pub returns : goal.returns
returns c = search (rules, cell_fits)
