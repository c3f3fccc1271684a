-- `pieces::stop::stop_at` meets its contract, by the cases of its test. Assumes nothing.
use borrow.Author.Rules.{rules}
use Rattle.rules.proofs.Cases.{cases}
use Rattle.pieces.specs.AsCoded.Window.{stopped_at}
use Rattle.pieces.proofs.StopLaws.{over_line}
use Rattle.pieces.proofs.stop.stop_at.Goals as goal

pub returns-then-hungry : goal.returns-then-hungry
unfolding stopped_at
returns-then-hungry c = search (rules, cases) depth 9

pub returns : goal.returns
unfolding stopped_at
returns c = search (rules, cases, over_line) depth 9
