-- `terminal::state::Core::move_table` meets its contract. Assumes nothing.
use Rattle.terminal.specs.State.{with_message, with_table}
use Rattle.terminal.proofs.state.Core.move_table.Goals as goal

pub returns : goal.returns
unfolding with_message with_table
returns c = cc
