-- `terminal::state::Core::replies` meets its contract. Assumes nothing.
use Rattle.terminal.specs.Closing.{replies}
use Rattle.terminal.proofs.state.Core.replies.Goals as goal

pub returns : goal.returns
unfolding replies
returns c = cc
