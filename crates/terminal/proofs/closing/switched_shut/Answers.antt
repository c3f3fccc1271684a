-- `terminal::closing::switched_shut` meets its contract. Assumes nothing.
use Rattle.terminal.specs.Closing.{switched_shut}
use Rattle.terminal.proofs.closing.switched_shut.Goals as goal

pub returns : goal.returns
unfolding switched_shut
returns c = cc
