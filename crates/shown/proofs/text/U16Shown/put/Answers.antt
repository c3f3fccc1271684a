-- `shown::text::U16Shown::put` meets its contract: the digits are those of the number. Assumes
-- nothing.
use mathlib.Core.Path.{refl}
use native.Mathlib.Nat.{le_refl}
use Rattle.lines.proofs.DecimalLaws.{length_decimal}
use Rattle.shown.proofs.TextLaws.{own_fits}
use Rattle.shown.proofs.text.U16Shown.put.Goals as goal

pub returns : goal.returns
returns c =
    own_fits 20 _ c.put_text.ensures c.written.ensures c.decimal.ensures refl (le_refl 20)
    (length_decimal c.args.self.now)
