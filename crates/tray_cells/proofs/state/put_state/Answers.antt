-- `tray_cells::state::put_state` meets its contract, by its cases. Assumes nothing.
use Rattle.std.proofs.Common.{rules}
use Rattle.tray_cells.proofs.StateLaws.{state_none, state_some}
use Rattle.tray_cells.proofs.state.put_state.Goals as goal

pub returns-then-tray : goal.returns-then-tray
returns-then-tray c = search (rules, state_some)

pub returns : goal.returns
returns c = search (rules, state_none)
