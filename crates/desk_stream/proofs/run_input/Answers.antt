-- `desk_stream::run_input` meets its contract: memory of zeros is where a recording starts, and the
-- course is steady. Assumes nothing.
use Rattle.std.proofs.Common.{◌≡◌, refl, arith, replicate}
use Rattle.controller.specs.State.{desk_words}
use Rattle.desk.specs.declared.run.Run.{Run as HeldRun}
use Rattle.desk.specs.Run.{run_over, run_at_start}
use Rattle.desk.specs.AsCoded.Held.{run_of, held_at_start}
use Rattle.stream.proofs.LoopLaws.{came_from, known_from}
use Rattle.desk_stream.proofs.SteadyLaws.{desk_is_steady}
use Rattle.desk_stream.proofs.run_input.Goals as goal

starts : (run : HeldRun) → run ≡ held_at_start → run_of run (replicate desk_words 0) ≡ run_at_start
unfolding held_at_start run_at_start run_over
starts run is = rw is refl

pub returns : goal.returns
returns g c =
    let zero = starts c.at_start-run.result c.at_start-run.ensures in
    record {
      came = came_from zero (c.run_input-whole.ensures.came 133 desk_is_steady (omega arith));
      known = known_from zero (c.run_input-whole.ensures.known 133 desk_is_steady (omega arith));
    }
