-- `queue::Queue::join` meets its contract, full and with room. Assumes nothing.
use borrow.Author.Rules.{rules}
use Rattle.queue.proofs.QueueLaws.{joins}
use Rattle.queue.proofs.Queue.join.Goals as goal

pub returns-then-self-ge-QUEUE_PLACES : goal.returns-then-self-ge-QUEUE_PLACES
returns-then-self-ge-QUEUE_PLACES c = search (rules, joins)

pub returns : goal.returns
returns c = search (rules, joins)
