-- `terminal::state::Core::switch` meets its contract. Assumes nothing.
use Rattle.terminal.specs.State.{with_switches}
use Rattle.terminal.proofs.state.Core.switch.Goals as goal

pub returns : goal.returns
unfolding with_switches
returns c = cc
