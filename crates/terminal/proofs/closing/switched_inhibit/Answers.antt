-- `terminal::closing::switched_inhibit` meets its contract. Assumes nothing.
use Rattle.terminal.specs.Closing.{switched_inhibit}
use Rattle.terminal.proofs.closing.switched_inhibit.Goals as goal

pub returns : goal.returns
unfolding switched_inhibit
returns c = cc
