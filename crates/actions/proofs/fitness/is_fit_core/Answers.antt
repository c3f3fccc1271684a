-- `actions::fitness::is_fit_core` meets its contract. Assumes nothing.
use Rattle.terminal.specs.Fitness.{fit_core}
use Rattle.actions.proofs.fitness.is_fit_core.Goals as goal

pub returns : goal.returns
unfolding fit_core
returns c = cc
