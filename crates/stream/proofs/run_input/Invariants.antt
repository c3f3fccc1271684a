-- `stream::run_input` meets its contract, by the laws of its loop. Assumes nothing.
use Rattle.stream.proofs.LoopLaws.{Runs}
use Rattle.stream.proofs.run_input.Given as goal

abbrev pub invariant-loop : goal.invariant-loop
invariant-loop g l =
    Runs g.R.Runner.course (g.R.Runner.run_of l.initial.run l.initial.ram)
    (record {
      given = g.I.Read.remaining l.initial.input;
      held = g.O.Write.contents l.initial.output;
    })
    l.counter (g.R.Runner.run_of l.run l.ram) l.window
    (record { given = g.I.Read.remaining l.input; held = g.O.Write.contents l.output })
    l.out
