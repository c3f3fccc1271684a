-- Each public contract of the crate allows one outcome alone: one reason to stop, one count, and
-- one content of every byte that was lent. Assumes nothing.
use Rattle.rules.proofs.Determined.{Determined, DeterminedAs, same}
use Rattle.lines.specs.Page.{on}
use Rattle.lines.specs.Written.{Put, put}
use Rattle.pieces.specs.AsCoded.Window.{Passed, Stopped, stopped}
use Rattle.pieces.specs.AsCoded.Runner.{passed_of}
use Rattle.pieces.proofs.stop.Stop.is_going.Kinds as is_going_kinds
use Rattle.pieces.proofs.stop.Stop.is_going.Reads as is_going_reads
use Rattle.pieces.proofs.stop.stop_at.Kinds as stop_at_kinds
use Rattle.pieces.proofs.stop.stop_at.Reads as stop_at_reads
use Rattle.pieces.proofs.rest.keep_rest.Kinds as keep_rest_kinds
use Rattle.pieces.proofs.rest.keep_rest.Reads as keep_rest_reads
use Rattle.pieces.proofs.window.run_window.Kinds as run_window_kinds
use Rattle.pieces.proofs.window.run_window.Reads as run_window_reads

pub is_going : Determined 0 is_going_kinds.ps is_going_kinds.r is_going_reads.Post
is_going κs arguments result result' exit exit' = same

pub stop_at :
    DeterminedAs 2 stop_at_kinds.ps stop_at_kinds.r stop_at_reads.Post Stopped
    (λ κs result exit. stopped (on exit.0.now) result)
stop_at κs arguments result result' exit exit' is is' = same is.is_wanted is'.is_wanted

pub keep_rest :
    DeterminedAs 1 keep_rest_kinds.ps keep_rest_kinds.r keep_rest_reads.Post Put
    (λ κs result exit. put result exit.0.now)
keep_rest κs arguments result result' exit exit' = same

-- of every runner: one run, one place in the window, one reason to stop
module _ (R : _) (laws : _) (runner : _) (dict : _) where
  pub run_window :
      DeterminedAs 5 (run_window_kinds.ps R laws) (run_window_kinds.r R laws)
      (run_window_reads.Post R laws runner dict) (Passed runner.Run)
      (λ κs result exit.
      passed_of (runner.run_of exit.0.now exit.1.0.now) result exit.1.1.1.0.now)
  run_window κs arguments result result' exit exit' = same
