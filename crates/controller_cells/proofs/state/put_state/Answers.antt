-- `controller_cells::state::put_state` meets its contract, by its cases. Assumes nothing.
use Rattle.std.proofs.Common.{rules}
use Rattle.controller_cells.proofs.StateLaws.{state_some, state_none}
use Rattle.controller_cells.proofs.state.put_state.Goals as goal

pub returns-then-run : goal.returns-then-run
returns-then-run c = search (rules, state_some)

pub returns : goal.returns
returns c = search (rules, state_none)
