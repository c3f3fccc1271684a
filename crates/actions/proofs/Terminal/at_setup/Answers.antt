-- `actions::Terminal::at_setup` meets its contract. Assumes nothing.
use Rattle.actions.specs.Actions.{terminal_at_setup}
use Rattle.actions.proofs.Terminal.at_setup.Goals as goal

pub returns : goal.returns
unfolding terminal_at_setup
returns c = cc
