-- `tray_cells::state::put_line` meets its contract, by its cases. Assumes nothing.
use Rattle.std.proofs.Common.{rules}
use Rattle.tray_cells.proofs.StateLaws.{line_a, line_b}
use Rattle.tray_cells.proofs.state.put_line.Goals as goal

pub returns-then-line : goal.returns-then-line
returns-then-line c = search (rules, line_b)

pub returns : goal.returns
returns c = search (rules, line_a)
