-- `terminal::state::Core::at_setup` meets its contract, field by field. Assumes nothing.
use Rattle.terminal.specs.State.{core_at_setup}
use mathlib.Core.Path.{refl}
use Rattle.terminal.proofs.state.Core.at_setup.Goals as goal

pub returns : goal.returns
unfolding core_at_setup
returns c = refl
