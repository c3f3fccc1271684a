-- `tray_stream::run_input` meets its contract: memory of zeros is where a recording starts, and the
-- course is steady. Assumes nothing.
use Rattle.std.proofs.Common.{◌≡◌, refl, arith, replicate}
use Rattle.card.specs.Memory.{card_words}
use Rattle.tray.specs.declared.run.Tray.{Tray as HeldTray}
use Rattle.tray.specs.Run.{tray_over, tray_at_start}
use Rattle.tray.specs.AsCoded.Held.{tray_of, held_at_start}
use Rattle.tray_laws.proofs.SteadyLaws.{tray_is_steady}
use Rattle.stream.proofs.LoopLaws.{came_from, known_from}
use Rattle.tray_stream.proofs.run_input.Goals as goal

starts : (run : HeldTray) → run ≡ held_at_start
    → tray_of run (replicate card_words 0) ≡ tray_at_start
unfolding held_at_start tray_at_start tray_over
starts run is = rw is refl

pub returns : goal.returns
returns g c =
    let zero = starts c.at_start-tray.result c.at_start-tray.ensures in
    record {
      came = came_from zero (c.run_input-whole.ensures.came 133 tray_is_steady (omega arith));
      known = known_from zero (c.run_input-whole.ensures.known 133 tray_is_steady (omega arith));
    }
