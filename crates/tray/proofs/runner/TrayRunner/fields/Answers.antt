-- `tray::runner::TrayRunner::fields` meets its contract: it is the course's. Assumes nothing.
use Rattle.std.proofs.Common.{refl}
use Rattle.tray.specs.Run.{tray_course}
use Rattle.tray.proofs.runner.TrayRunner.fields.Goals as goal

pub returns : goal.returns
unfolding tray_course
returns c = λ ram. refl
