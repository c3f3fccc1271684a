-- `tray_cells::state::put_waiting` meets its contract, by its cases. Assumes nothing.
use Rattle.std.proofs.Common.{rules}
use Rattle.tray_cells.proofs.StateLaws.{waiting_none, waiting_some}
use Rattle.shown.proofs.TextLaws.{fits_then}
use Rattle.tray_cells.proofs.state.put_waiting.Goals as goal

pub returns-then-queue-eq0 : goal.returns-then-queue-eq0
returns-then-queue-eq0 c = search (rules, waiting_none)

pub returns : goal.returns
returns c = search (rules, waiting_some, fits_then)
