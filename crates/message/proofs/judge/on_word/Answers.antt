-- `message::judge::on_word` meets its contract, by the cases of its tests. Assumes nothing.
use borrow.Author.Rules.{rules}
use Rattle.message.proofs.JudgeLaws.{on_words}
use Rattle.message.proofs.judge.on_word.Goals as goal

pub returns-then-is_own-elsewhere : goal.returns-then-is_own-elsewhere
returns-then-is_own-elsewhere c = search (rules, on_words)

pub returns-then-elsewhere : goal.returns-then-elsewhere
returns-then-elsewhere c = search (rules, on_words)

pub returns : goal.returns
returns c = search (rules, on_words)
