-- `terminal::state::Core::after_row` meets its contract. Assumes nothing.
use Rattle.terminal.specs.State.{with_message}
use Rattle.terminal.proofs.state.Core.after_row.Goals as goal

pub returns : goal.returns
unfolding with_message
returns c = cc
