-- `controller_cells::state::put_progress` meets its contract, by its cases. Assumes nothing.
use Rattle.std.proofs.Common.{rules}
use Rattle.shown.proofs.TextLaws.{fits_then}
use Rattle.controller_cells.proofs.StateLaws.{progress_given, progress_back}
use Rattle.controller_cells.proofs.state.put_progress.Goals as goal

pub returns-in-None : goal.returns-in-None
returns-in-None c = search (rules, progress_given)

pub returns-in-Some : goal.returns-in-Some
returns-in-Some c = search (rules, progress_back, fits_then)
