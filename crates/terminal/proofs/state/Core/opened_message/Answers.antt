-- `terminal::state::Core::opened_message` meets its contract. Assumes nothing.
use Rattle.terminal.specs.Opening.{opened_message}
use Rattle.terminal.proofs.state.Core.opened_message.Goals as goal

pub returns : goal.returns
unfolding opened_message
returns c = cc
