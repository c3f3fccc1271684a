-- `desk::print::put_result` meets its contract. Assumes nothing.
use Rattle.std.proofs.Common.{rules}
use Rattle.desk.proofs.LineLaws.{result_lines}
use Rattle.desk.proofs.print.put_result.Goals as goal

pub returns-in-None : goal.returns-in-None
returns-in-None c = search (rules, result_lines)

pub returns-in-Some : goal.returns-in-Some
returns-in-Some c = search (rules, result_lines)
