-- `controller_cells::state::put_message` meets its contract, by its cases. Assumes nothing.
use Rattle.std.proofs.Common.{rules}
use Rattle.shown.proofs.TextLaws.{fits_then}
use Rattle.controller_cells.proofs.StateLaws.{message_idle, message_open}
use Rattle.controller_cells.proofs.state.put_message.Goals as goal

pub returns-in-None : goal.returns-in-None
returns-in-None c = search (rules, message_idle)

pub returns-in-Some : goal.returns-in-Some
returns-in-Some c = search (rules, message_open, fits_then)
