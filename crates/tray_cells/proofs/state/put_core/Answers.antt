-- `tray_cells::state::put_core` meets its contract: its parts are put in turn. Assumes nothing.
use Rattle.std.proofs.Common.{rules}
use Rattle.shown.proofs.TextLaws.{fits_then}
use Rattle.tray_cells.specs.State.{core_text}
use Rattle.tray_cells.proofs.state.put_core.Goals as goal

pub returns : goal.returns
unfolding core_text
returns c = search (rules, fits_then)
