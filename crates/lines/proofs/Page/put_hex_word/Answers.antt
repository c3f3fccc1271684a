-- `lines::Page::put_hex_word` meets its contract. Assumes nothing.
use Rattle.std.proofs.Common.{rules}
use Rattle.lines.proofs.PartLaws.{wrote_hex_word}
use Rattle.lines.proofs.Page.put_hex_word.Goals as goal

pub returns : goal.returns
returns c = search (rules, wrote_hex_word)
