-- `tray::run::Tray::at_start` meets its contract, by computation. Assumes nothing.
use Rattle.tray.specs.AsCoded.Held.{held_at_start}
use Rattle.tray.proofs.run.Tray.at_start.Goals as goal

pub returns : goal.returns
unfolding held_at_start
returns c = cc
