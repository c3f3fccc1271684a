-- `lines::Page::result_line` meets its contract. Assumes nothing.
use Rattle.std.proofs.Common.{rules}
use Rattle.lines.specs.Lines.{result_line}
use Rattle.lines.proofs.Page.result_line.Goals as goal

pub returns : goal.returns
unfolding result_line
returns c = search rules
