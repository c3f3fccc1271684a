-- `shown::item::put_item` meets its contract: its parts are put in turn. Assumes nothing.
use Rattle.std.proofs.Common.{rules}
use Rattle.shown.proofs.TextLaws.{fits_then}
use Rattle.shown.proofs.item.put_item.Goals as goal

pub returns : goal.returns
returns g c = search (rules, fits_then)
