-- `controller_cells::state::put_controller` meets its contract: its parts are put in turn. Assumes
-- nothing.
use Rattle.std.proofs.Common.{rules}
use Rattle.shown.proofs.TextLaws.{fits_then}
use Rattle.controller_cells.specs.State.{controller_text}
use Rattle.controller_cells.proofs.state.put_controller.Goals as goal

pub returns : goal.returns
unfolding controller_text
returns c = search (rules, fits_then)
