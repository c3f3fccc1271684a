-- `queue::Queue::read` meets its contract, empty and not. Assumes nothing.
use borrow.Author.Rules.{rules}
use Rattle.queue.proofs.QueueLaws.{reads}
use Rattle.queue.proofs.Queue.read.Goals as goal

pub returns-then-self-eq0-clause-word : goal.returns-then-self-eq0-clause-word
returns-then-self-eq0-clause-word c = search (rules, reads)

pub returns-then-self-eq0-clause-left : goal.returns-then-self-eq0-clause-left
returns-then-self-eq0-clause-left c = search (rules, reads)

pub returns-clause-word : goal.returns-clause-word
returns-clause-word c = search (rules, reads)

pub returns-clause-left : goal.returns-clause-left
returns-clause-left c = search (rules, reads)
