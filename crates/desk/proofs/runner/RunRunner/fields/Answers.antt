-- `desk::runner::RunRunner::fields` meets its contract: it is the course's. Assumes nothing.
use Rattle.std.proofs.Common.{refl}
use Rattle.desk.specs.Run.{desk_course}
use Rattle.desk.proofs.runner.RunRunner.fields.Goals as goal

pub returns : goal.returns
unfolding desk_course
returns c = λ ram. refl
