-- `shown::cells::put_cells` meets its contract, cell by cell. Assumes nothing.
use Rattle.std.proofs.Common.{rules}
use Rattle.shown.proofs.CellLaws.{cells_none, cells_more, cells_end}
use Rattle.shown.proofs.cells.put_cells.Goals as goal

pub loop-address-init : goal.loop-address-init
loop-address-init c = search (rules, cells_none)

pub loop-address-preserved : goal.loop-address-preserved
loop-address-preserved c = search (rules, cells_more)

pub returns : goal.returns
returns c = search (rules, cells_end)
