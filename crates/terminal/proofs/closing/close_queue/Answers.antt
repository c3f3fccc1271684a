-- `terminal::closing::close_queue` meets its contract. Assumes nothing.
use Rattle.terminal.specs.Closing.{closed_queue}
use Rattle.terminal.proofs.closing.close_queue.Goals as goal

pub returns-then-asked-message : goal.returns-then-asked-message
unfolding closed_queue
returns-then-asked-message c = rw c.if-asked-message.true c.join.ensures

pub returns-else-asked-message : goal.returns-else-asked-message
unfolding closed_queue
returns-else-asked-message c = rw c.if-asked-message.false
