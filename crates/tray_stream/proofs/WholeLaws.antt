-- What a whole tray run has printed and left, what no run leaves, and that each is sound. Assumes
-- nothing.
use mathlib.Core.Path.{◌≡◌, refl}
use mathlib.Core.Bool.{Bool, true, false}
use Rattle.tray.specs.Run.{Tray, tray_at_start, tray_course}
use Rattle.tray_laws.proofs.SteadyLaws.{tray_is_steady}
use Rattle.tray_laws.proofs.EndLaws.{Untouched, untouched_kept}
use Rattle.stream.specs.Came.{Came}
use Rattle.stream.proofs.WholeLaws as general

-- a whole run has printed `printed` of its input, and left what it leaves
pub whole_run_prints : (new : Tray) → Came tray_course tray_at_start new true
    → general.PrintedWhole tray_course tray_at_start new
whole_run_prints new came = general.whole_run_prints tray_course tray_is_steady came

-- where no setup has been read, all is as it was: memory, queue, and the count of fields
pub unread_is_untouched : {start new : Tray} {told : Bool} → Came tray_course start new told
    → new.seen.setup ≡ false → new ≡ start
unread_is_untouched {start} came =
    general.came_kept tray_course tray_is_steady (Untouched start) (untouched_kept start)
    (λ _. refl) came
