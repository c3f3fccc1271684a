-- `shown::text::HexU16Shown::put` meets its contract: the digits are those of the word. Assumes
-- nothing.
use mathlib.Core.Path.{refl}
use native.Mathlib.Nat.{le_refl}
use native.Mathlib.Omega.{arith}
use Rattle.lines.proofs.Lengths.{length_hex_word}
use Rattle.shown.proofs.TextLaws.{own_fits}
use Rattle.shown.proofs.text.HexU16Shown.put.Goals as goal

pub returns : goal.returns
returns c =
    own_fits 4 _ c.put_text.ensures c.written.ensures c.hex_word.ensures refl (le_refl 4)
    (omega (arith, length_hex_word c.args.self.now.0))
