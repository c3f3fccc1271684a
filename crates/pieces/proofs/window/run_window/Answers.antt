-- `pieces::window::run_window` meets its contract, by the laws of its loop. Assumes nothing.
use Rattle.std.proofs.Common.{rules, sym, ◌∙◌}
use Rattle.pieces.specs.AsCoded.Window.{window_run}
use Rattle.pieces.proofs.LeadLaws.{leads_on, leads_stopped, leads_done}
use Rattle.pieces.proofs.window.run_window.Goals as goal

pub loop-turns-preserved : goal.loop-turns-preserved
loop-turns-preserved g c =
    record {
      same_buffer = c.turn.ensures.same_buffer ∙ c.loop-turns.invariant.same_buffer;
      is_wanted =
          leads_on _ _ _ _ _ _ _ c.loop-turns.invariant.is_wanted _ _ _ _ _ c.loop-turns-test.true
          (sym c.is_going.ensures ∙ c.if-is_going.true)
          c.saturating_sub-room.ensures c.take_row-row.ensures c.turn.ensures.is_wanted;
    }

pub returns : goal.returns
unfolding window_run
returns g c = search (rules, leads_stopped, leads_done)
