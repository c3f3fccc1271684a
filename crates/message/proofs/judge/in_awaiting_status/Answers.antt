-- `message::judge::in_awaiting_status` meets its contract, by the cases of its tests. Assumes
-- nothing.
use borrow.Author.Rules.{rules}
use Rattle.rules.proofs.Cases.{cases}
use Rattle.message.specs.Words.{in_awaiting_status}
use Rattle.message.proofs.JudgeLaws.{answering}
use Rattle.message.proofs.judge.in_awaiting_status.Goals as goal

pub returns-then-not-word : goal.returns-then-not-word
unfolding in_awaiting_status
returns-then-not-word c = search cases depth 9

pub returns-then-not-word-2 : goal.returns-then-not-word-2
unfolding in_awaiting_status
returns-then-not-word-2 c = search cases depth 9

pub returns-then-address : goal.returns-then-address
returns-then-address c = search (rules, answering)

pub returns : goal.returns
returns c = search (rules, answering)
