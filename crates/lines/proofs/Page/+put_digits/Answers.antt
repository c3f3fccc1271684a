-- `lines::Page::put_digits`, which calls itself for the tens, meets its contract. Assumes nothing.
use Rattle.std.proofs.Common.{rules}
use Rattle.lines.proofs.PartLaws.{digits_none, digits_last, digits_more}
use Rattle.lines.proofs.Page.+put_digits.Goals as goal
use Rattle.lines.proofs.Page.+put_digits.Goals.{then-number-ge10, else-number-ge10}

pub returns-then-places-eq0 : goal.returns-then-places-eq0
returns-then-places-eq0 t c = search (rules, digits_none)

pub returns : goal.returns
returns t c =
    elim c.if-number-ge10.branch [
      | then-number-ge10 w ↦ search (rules, digits_more)
      | else-number-ge10 w ↦ search (rules, digits_last)
    ]
