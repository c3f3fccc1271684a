-- `terminal::state::Core::close_at_end` meets its contract. Assumes nothing.
use Rattle.terminal.specs.Closing.{closing, ended}
use Rattle.terminal.specs.State.{with_message}
use Rattle.terminal.proofs.state.Core.close_at_end.Goals as goal

pub returns : goal.returns
unfolding closing ended with_message
returns c = cc
