-- `stream::run_input` meets its contract, by the laws of its loop. Assumes nothing.
use Rattle.std.proofs.Common.{refl, ap, arith, true≢false, sym, ◌∙◌}
use Rattle.std.specs.Prelude.{Ok}
use Rattle.stream.proofs.LoopLaws.{runs_at_start, runs_on, runs_whole, runs_off, runs_out}
use Rattle.stream.proofs.run_input.Goals as goal

pub loop-init : goal.loop-init
loop-init g c = rw c.empty-window.ensures (runs_at_start _ _ _ _ refl)

pub returns-in-Ok-true : goal.returns-in-Ok-true
returns-in-Ok-true g c =
    let ended =
    runs_whole _ _ _ c.loop.invariant _ c.turn.result c.turn.ensures
    (c.in-Ok-true.is ∙ ap (λ any. Ok any) c.in-Ok-true.field-0-test) in
    record {
      came = λ longest steady short. (ended longest steady short).came;
      known =
          λ longest steady short.
          record { printed = λ whole. (ended longest steady short).printed };
    }

pub returns-in-Err : goal.returns-in-Err
returns-in-Err g c =
    record {
      came = runs_off _ _ _ c.loop.invariant _ c.turn.result c.turn.ensures _ c.in-Err.is;
      known =
          λ longest steady short.
          record { printed = λ whole. absurd (true≢false (sym whole)) };
    }

pub loop-preserved : goal.loop-preserved
loop-preserved g c =
    runs_on _ _ _ c.loop.invariant _ c.turn.result c.turn.ensures _ c.turn.auto.out
    (c.in-Ok-false.is ∙ ap (λ any. Ok any) c.in-Ok-false.field-0-test)

pub returns : goal.returns
returns g c =
    record {
      came = runs_out _ _ _ c.loop.invariant (omega (arith, c.loop.auto.counter-end));
      known =
          λ longest steady short.
          record { printed = λ whole. absurd (true≢false (sym whole)) };
    }
