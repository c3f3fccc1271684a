-- A call over a window makes of its bytes what the run makes of them, whatever bytes come behind,
-- and leaves the rest to be done: what `pieces` says of every steady course. Assumes nothing.
use mathlib.Core.Path.{◌≡◌}
use mathlib.Core.Logic.{◌≢◌}
use mathlib.Core.Bool.{Bool, true}
use mathlib.Core.List.{List, [], ◌++◌}
use Prim.Native.Nat.{ℕ}
use lib.ListN.{drop}
use Rattle.pieces.specs.declared.stop.Stop.TheVariants.{Over}
use Rattle.pieces.specs.Whole.{whole, with_line}
use Rattle.pieces.specs.AsCoded.Pieces.{lines_put}
use Rattle.pieces.proofs.WindowLaws as general
use Rattle.tray.specs.Run.{Tray, tray_course, whole_from}
use Rattle.tray.specs.AsCoded.Window.{Passed, window_run}
use Rattle.tray_laws.proofs.SteadyLaws.{tray_is_steady}

module _ (window behind : List ℕ) (last : Bool) (none_behind : last ≡ true → behind ≡ [])
    (old : Tray) (out : List ℕ) where
  abbrev call : Passed
  call = window_run old window last out

  -- a call that is not over prints its lines, and the rest is still to be done
  pub call_goes_on : call.stop ≢ Over
      → whole_from old (window ++ behind)
      ≡ with_line (lines_put call) (whole_from call.run (drop call.at window ++ behind))
  call_goes_on =
      general.call_goes_on tray_course tray_is_steady window behind last none_behind old out

  -- a call that is over has printed all there is, and leaves what the run leaves
  pub call_is_over : call.stop ≡ Over
      → whole_from old (window ++ behind) ≡ whole (lines_put call) call.run
  call_is_over =
      general.call_is_over tray_course tray_is_steady window behind last none_behind old out
