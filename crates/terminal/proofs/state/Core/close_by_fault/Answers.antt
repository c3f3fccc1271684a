-- `terminal::state::Core::close_by_fault` meets its contract. Assumes nothing.
use Rattle.terminal.specs.Closing.{closing, faulted}
use Rattle.terminal.specs.State.{with_message, with_status}
use Rattle.terminal.proofs.state.Core.close_by_fault.Goals as goal

pub returns : goal.returns
unfolding closing faulted with_message with_status
returns c = cc
