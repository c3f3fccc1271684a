-- `tray_cells::state::put_second` meets its contract, by its cases. Assumes nothing.
use Rattle.std.proofs.Common.{rules}
use Rattle.tray_cells.proofs.StateLaws.{no_second, second_command}
use Rattle.tray_cells.proofs.state.put_second.Goals as goal

pub returns-in-None : goal.returns-in-None
returns-in-None c = search (rules, no_second)

pub returns-in-Some : goal.returns-in-Some
returns-in-Some c = search (rules, second_command)
