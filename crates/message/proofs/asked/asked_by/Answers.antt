-- `message::asked::asked_by` meets its contract: a law for each kind. Assumes nothing.
use borrow.Author.Rules.{rules}
use Rattle.message.proofs.AskedLaws.{kinds}
use Rattle.message.proofs.asked.asked_by.Goals as goal

pub returns-in-Receive : goal.returns-in-Receive
returns-in-Receive c = search (rules, kinds)

pub returns-in-Transmit : goal.returns-in-Transmit
returns-in-Transmit c = search (rules, kinds)

pub returns-in-ModeStatus : goal.returns-in-ModeStatus
returns-in-ModeStatus c = search (rules, kinds)

pub returns-in-ModeLast : goal.returns-in-ModeLast
returns-in-ModeLast c = search (rules, kinds)

pub returns-in-ModeSwitch : goal.returns-in-ModeSwitch
returns-in-ModeSwitch c = search (rules, kinds)

pub returns-in-ModeSend : goal.returns-in-ModeSend
returns-in-ModeSend c = search (rules, kinds)

pub returns-in-ModeTake : goal.returns-in-ModeTake
returns-in-ModeTake c = search (rules, kinds)

pub returns-in-ModeReply : goal.returns-in-ModeReply
returns-in-ModeReply c = search (rules, kinds)

pub returns-in-Illegal : goal.returns-in-Illegal
returns-in-Illegal c = search (rules, kinds)
