-- `message::judge::is_own` meets its contract: its tests are those that the calls answer. Assumes
-- nothing.
use Rattle.message.specs.Words.{own_command}
use Rattle.message.proofs.judge.is_own.Goals as goal

pub returns : goal.returns
unfolding own_command
returns c = cc
