-- `terminal::state::Core::set_flags` meets its contract. Assumes nothing.
use Rattle.terminal.specs.State.{with_flags}
use mathlib.Core.Path.{refl}
use Rattle.terminal.proofs.state.Core.set_flags.Goals as goal

pub returns : goal.returns
unfolding with_flags
returns c = refl
