-- `shown::text::HexU8Shown::put` meets its contract: the digits are those of the byte. Assumes
-- nothing.
use mathlib.Core.Path.{refl}
use native.Mathlib.Nat.{le_refl}
use native.Mathlib.Omega.{arith}
use Rattle.lines.proofs.Lengths.{length_hex_byte}
use Rattle.shown.proofs.TextLaws.{own_fits}
use Rattle.shown.proofs.text.HexU8Shown.put.Goals as goal

pub returns : goal.returns
returns c =
    own_fits 2 _ c.put_text.ensures c.written.ensures c.hex_byte.ensures refl (le_refl 2)
    (omega (arith, length_hex_byte c.args.self.now.0))
