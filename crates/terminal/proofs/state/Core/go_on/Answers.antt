-- `terminal::state::Core::go_on` meets its contract. Assumes nothing.
use Rattle.terminal.specs.State.{with_message}
use Rattle.terminal.proofs.state.Core.go_on.Goals as goal

pub returns : goal.returns
unfolding with_message
returns c = cc
