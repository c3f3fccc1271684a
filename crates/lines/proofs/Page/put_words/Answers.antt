-- `lines::Page::put_words` meets its contract, word by word. Assumes nothing.
use Rattle.std.proofs.Common.{rules}
use Rattle.lines.proofs.PartLaws.{words_none, words_more, words_end}
use Rattle.lines.proofs.Page.put_words.Goals as goal

pub loop-word-init : goal.loop-word-init
loop-word-init c = search (rules, words_none)

pub loop-word-preserved : goal.loop-word-preserved
loop-word-preserved c = search (rules, words_more)

pub returns : goal.returns
returns c = search (rules, words_end)
