-- `tray_cells::state::put_opened` meets its contract: its parts are put in turn. Assumes nothing.
use Rattle.std.proofs.Common.{rules}
use Rattle.shown.proofs.TextLaws.{fits_then}
use Rattle.tray_cells.proofs.state.put_opened.Goals as goal

pub returns : goal.returns
returns c = search (rules, fits_then)
