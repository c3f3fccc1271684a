-- `message::judge::in_data` meets its contract, by the cases of its tests in the order of the
-- rules. Assumes nothing.
use Rattle.rules.proofs.Cases.{cases}
use Rattle.message.specs.Words.{in_data}
use Rattle.message.proofs.JudgeLaws.{first_told}
use Rattle.message.proofs.judge.in_data.Goals as goal

pub returns-then-not-word : goal.returns-then-not-word
unfolding in_data
returns-then-not-word c = search cases depth 14 fits 4000

pub returns-then-not-word-2 : goal.returns-then-not-word-2
unfolding in_data
returns-then-not-word-2 c = search cases depth 14 fits 4000

pub returns-then-asked-message : goal.returns-then-asked-message
unfolding in_data
returns-then-asked-message c = search cases depth 14 fits 4000

pub returns-then-word-asked : goal.returns-then-word-asked
unfolding in_data
returns-then-word-asked c = search (cases, first_told) depth 14 fits 4000

pub returns-then-word : goal.returns-then-word
unfolding in_data
returns-then-word c = search (cases, first_told) depth 14 fits 4000

pub returns-then-message-asked : goal.returns-then-message-asked
unfolding in_data
returns-then-message-asked c = search cases depth 14 fits 4000

pub returns : goal.returns
unfolding in_data
returns c = search cases depth 14 fits 4000
