-- `pieces::window::run_window` meets its contract, by the laws of its loop. Assumes nothing.
use Rattle.lines.specs.Page.{on}
use Rattle.pieces.specs.AsCoded.OnPage.{OnPage}
use Rattle.pieces.specs.AsCoded.Window.{passed, turns}
use Rattle.pieces.proofs.window.run_window.Given as goal

-- on the page of the call, the turns that are left lead where all of them lead
abbrev pub invariant-loop-turns : goal.invariant-loop-turns
invariant-loop-turns g l =
    OnPage l.initial.page l.page
    (turns g.R.Runner.course l.turns l.window l.last
    (passed (g.R.Runner.run_of l.run l.ram) l.at (on l.page) l.stop))
    (turns g.R.Runner.course l.initial.turns l.window l.last
    (passed (g.R.Runner.run_of l.initial.run l.initial.ram) l.initial.at (on l.initial.page)
    l.initial.stop))

abbrev pub decreases-loop-turns : goal.decreases-loop-turns
decreases-loop-turns g l = l.turns
