-- `actions::fitness::is_fit_open` meets its contract. Assumes nothing.
use Rattle.message.specs.Fitness.{fit_open}
use Rattle.actions.proofs.fitness.is_fit_open.Goals as goal

pub returns : goal.returns
unfolding fit_open
returns c = cc
