-- `desk::print::put_given` meets its contract. Assumes nothing.
use Rattle.std.proofs.Common.{rules}
use Rattle.desk.proofs.LineLaws.{given_lines}
use Rattle.desk.proofs.print.put_given.Goals as goal

pub returns-in-None : goal.returns-in-None
returns-in-None c = search (rules, given_lines)

pub returns-in-Some : goal.returns-in-Some
returns-in-Some c = search (rules, given_lines)
