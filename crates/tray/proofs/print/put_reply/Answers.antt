-- `tray::print::put_reply` meets its contract: a law for each reply. Assumes nothing.
use Rattle.std.proofs.Common.{rules}
use Rattle.tray.proofs.LineLaws.{reply_lines}
use Rattle.tray.proofs.print.put_reply.Goals as goal

pub returns-in-Silent : goal.returns-in-Silent
returns-in-Silent c = search (rules, reply_lines) depth 9

pub returns-in-Status : goal.returns-in-Status
returns-in-Status c = search (rules, reply_lines) depth 9

pub returns-in-Words : goal.returns-in-Words
returns-in-Words c = search (rules, reply_lines) depth 9

pub returns-in-Last : goal.returns-in-Last
returns-in-Last c = search (rules, reply_lines) depth 9
