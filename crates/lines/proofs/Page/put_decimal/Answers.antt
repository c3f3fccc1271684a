-- `lines::Page::put_decimal` meets its contract: twenty places. Assumes nothing.
use Rattle.std.proofs.Common.{rules}
use Rattle.lines.specs.Digits.{decimal}
use Rattle.lines.proofs.Page.put_decimal.Goals as goal

pub returns : goal.returns
unfolding decimal
returns c = search rules
