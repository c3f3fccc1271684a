-- `tray::runner::TrayRunner::offset` meets its contract: it is the course's. Assumes nothing.
use Rattle.std.proofs.Common.{refl}
use Rattle.tray.specs.Run.{tray_course}
use Rattle.tray.proofs.runner.TrayRunner.offset.Goals as goal

pub returns : goal.returns
unfolding tray_course
returns c = λ ram. refl
