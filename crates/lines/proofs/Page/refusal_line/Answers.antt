-- `lines::Page::refusal_line` meets its contract. Assumes nothing.
use Rattle.std.proofs.Common.{rules}
use Rattle.lines.specs.Lines.{refusal_line}
use Rattle.lines.proofs.Page.refusal_line.Goals as goal

pub returns : goal.returns
unfolding refusal_line
returns c = search rules
