-- `card::part::shown` meets its contract: the refusal that it asks for tells whether the part is
-- there. Assumes nothing.
use Rattle.std.proofs.Common.{rules}
use Rattle.card.proofs.PartLaws.{parts}
use Rattle.card.proofs.part.shown.Goals as goal

pub returns-then-is_some : goal.returns-then-is_some
returns-then-is_some c = search (rules, parts)

pub slice_bounds-result-end-2 : goal.slice_bounds-result-end-2
slice_bounds-result-end-2 c = search (rules, parts)

pub returns : goal.returns
returns c = search (rules, parts)
