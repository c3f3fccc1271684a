-- A buffer that has `whole_room` for a recording is never full: one call runs the whole of it,
-- prints its text from the first byte on, and leaves every byte behind as it was. Assumes nothing.
use mathlib.Core.Path.{◌≡◌}
use mathlib.Core.Bool.{true}
use mathlib.Core.List.{List}
use Prim.Native.Nat.{ℕ, ◌≤◌, ◌<◌}
use lib.ListN.{length}
use lib.Seq.{sets}
use Rattle.pieces.specs.declared.stop.Stop.TheVariants.{Over}
use Rattle.pieces.specs.AsCoded.Window.{most_turns}
use Rattle.pieces.proofs.RoomLaws as general
use Rattle.tray.specs.Run.{Tray, tray_course, whole_from}
use Rattle.tray.specs.AsCoded.Window.{Passed, window_run, whole_room}
use Rattle.tray_laws.proofs.FitLaws.{tray_lines_are_short}
use Rattle.tray_laws.proofs.SteadyLaws.{tray_is_steady}

module _ (window first : List ℕ) (room : whole_room (length window) ≤ length first) (old : Tray)
    (few_bytes : length window < most_turns) where
  abbrev call : Passed
  call = window_run old window true first

  -- it is over
  pub over_at_once : call.stop ≡ Over
  over_at_once =
      general.over_at_once tray_course tray_is_steady 21 tray_lines_are_short window first room old
      few_bytes

  -- what it prints and leaves is what the run makes of the whole recording
  pub whole_tray : call.run ≡ (whole_from old window).run
  whole_tray =
      general.whole_run tray_course tray_is_steady 21 tray_lines_are_short window first room old
      few_bytes

  pub whole_count : call.put ≡ length (whole_from old window).text
  whole_count =
      general.whole_count tray_course tray_is_steady 21 tray_lines_are_short window first room old
      few_bytes

  pub whole_bytes : call.out ≡ sets first 0 (whole_from old window).text
  whole_bytes =
      general.whole_bytes tray_course tray_is_steady 21 tray_lines_are_short window first room old
      few_bytes
