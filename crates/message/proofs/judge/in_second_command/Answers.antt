-- `message::judge::in_second_command` meets its contract, by the cases of its tests. Assumes
-- nothing.
use Rattle.message.specs.Words.{in_second_command}
use Rattle.message.proofs.judge.in_second_command.Goals as goal

pub returns-then-not-word : goal.returns-then-not-word
unfolding in_second_command
returns-then-not-word c = rw c.if-not-word.true

pub returns-then-word : goal.returns-then-word
unfolding in_second_command
returns-then-word c = rw (c.if-not-word.false, c.if-word.true)

pub returns-else-word : goal.returns-else-word
unfolding in_second_command
returns-else-word c = rw (c.if-not-word.false, c.if-word.false)
