-- `terminal::closing::state_of` meets its contract. Assumes nothing.
use Rattle.terminal.specs.Closing.{state_of}
use Rattle.terminal.proofs.closing.state_of.Goals as goal

pub returns : goal.returns
unfolding state_of
returns c = cc
