-- `desk::print::put_answer` meets its contract. Assumes nothing.
use Rattle.std.proofs.Common.{rules}
use Rattle.desk.proofs.LineLaws.{answer_lines}
use Rattle.desk.proofs.print.put_answer.Goals as goal

pub returns-in-Gave : goal.returns-in-Gave
returns-in-Gave c = search (rules, answer_lines)

pub returns-in-Ended : goal.returns-in-Ended
returns-in-Ended c = search (rules, answer_lines)
