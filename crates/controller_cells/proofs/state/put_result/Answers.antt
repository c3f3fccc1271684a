-- `controller_cells::state::put_result` meets its contract, by its cases. Assumes nothing.
use Rattle.std.proofs.Common.{rules}
use Rattle.shown.proofs.TextLaws.{fits_then}
use Rattle.controller_cells.proofs.StateLaws.{result_none, result_came}
use Rattle.controller_cells.proofs.state.put_result.Goals as goal

pub returns-in-None : goal.returns-in-None
returns-in-None c = search (rules, result_none)

pub returns-in-Some : goal.returns-in-Some
returns-in-Some c = search (rules, result_came, fits_then)
