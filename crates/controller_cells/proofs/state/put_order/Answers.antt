-- `controller_cells::state::put_order` meets its contract: its parts are put in turn. Assumes
-- nothing.
use Rattle.std.proofs.Common.{rules}
use Rattle.shown.proofs.TextLaws.{fits_then}
use Rattle.controller_cells.specs.State.{order_text}
use Rattle.controller_cells.proofs.StateLaws.{row_fits}
use Rattle.controller_cells.proofs.state.put_order.Goals as goal

pub returns : goal.returns
unfolding order_text
returns c = search (rules, fits_then, row_fits)
