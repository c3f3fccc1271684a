-- `desk::runner::RunRunner::offset` meets its contract: it is the course's. Assumes nothing.
use Rattle.std.proofs.Common.{refl}
use Rattle.desk.specs.Run.{desk_course}
use Rattle.desk.proofs.runner.RunRunner.offset.Goals as goal

pub returns : goal.returns
unfolding desk_course
returns c = λ ram. refl
