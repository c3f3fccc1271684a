-- `pieces::stop::put_last` meets its contract: a law for each last line. Assumes nothing.
use borrow.Author.Rules.{rules}
use Rattle.pieces.proofs.LineLaws.{last_lines}
use Rattle.pieces.proofs.stop.put_last.Goals as goal

pub returns-then-number-eq0 : goal.returns-then-number-eq0
returns-then-number-eq0 c = search (rules, last_lines) depth 9

pub returns : goal.returns
returns c = search (rules, last_lines) depth 9
