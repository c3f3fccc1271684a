-- `shown::text::put_text` meets its contract: the part that there is room for. Assumes nothing.
use Rattle.std.proofs.Common.{rules}
use Rattle.shown.proofs.TextLaws.{text_fits}
use Rattle.shown.proofs.text.put_text.Goals as goal

pub returns : goal.returns
returns c = search (rules, text_fits)
