-- `tray::print::put_answer` meets its contract: a law for each answer. Assumes nothing.
use Rattle.std.proofs.Common.{rules}
use Rattle.tray.proofs.LineLaws.{answer_lines}
use Rattle.tray.proofs.print.put_answer.Goals as goal

pub returns-in-Replied : goal.returns-in-Replied
returns-in-Replied c = search (rules, answer_lines) depth 9

pub returns-in-QueueWord : goal.returns-in-QueueWord
returns-in-QueueWord c = search (rules, answer_lines) depth 9
