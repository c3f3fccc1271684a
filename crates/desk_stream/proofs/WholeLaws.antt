-- What a whole run has printed and left. Assumes nothing.
use mathlib.Core.Bool.{true}
use Rattle.desk.specs.Run.{Run, run_at_start, desk_course}
use Rattle.stream.specs.Came.{Came}
use Rattle.stream.proofs.WholeLaws as general
use Rattle.desk_stream.proofs.SteadyLaws.{desk_is_steady}

-- a whole run has printed `printed` of its input, and left what it leaves
pub whole_run_prints : (new : Run) → Came desk_course run_at_start new true
    → general.PrintedWhole desk_course run_at_start new
whole_run_prints new came = general.whole_run_prints desk_course desk_is_steady came
