-- `terminal::state::Core::end_words` meets its contract. Assumes nothing.
use Rattle.terminal.specs.Closing.{end_words}
use Rattle.terminal.proofs.state.Core.end_words.Goals as goal

pub returns : goal.returns
unfolding end_words
returns c = cc
