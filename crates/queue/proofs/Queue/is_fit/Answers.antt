-- `queue::Queue::is_fit` meets its contract: the tests of the ring, and of the places. Assumes
-- nothing.
use Rattle.queue.specs.Queue.{fit_queue}
use Rattle.queue.proofs.QueueLaws.{places_fit}
use Rattle.queue.proofs.Queue.is_fit.Goals as goal

pub returns : goal.returns
unfolding fit_queue
returns c = rw (c.places_fit.ensures, places_fit c.args.blocks c.args.self.now.places)
