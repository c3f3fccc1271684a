-- A whole recording over a card memory and into a buffer that the caller lends. Definitions only.
-- Assumes nothing.
use Rattle.std.specs.Prelude.{cond, List, ℕ, min, eqb, ltb, length}
use Rattle.std.proofs.lemmas.List.Edits.{sets}
use Rattle.card.specs.Memory.{card_words}
use Rattle.tray.specs.Run.{Whole, tray_over, whole_from}
use Rattle.tray.specs.AsCoded.Window.{whole_room}

-- how long a buffer has to be for a recording of so many bytes; where that is more than 64 bits
-- hold, the greatest number that they do, and no buffer is so long
unfoldable pub room_for : ℕ → ℕ
room_for bytes = min (whole_room bytes) 18446744073709551615

-- the number by which the sizes of recording, RAM and buffer are refused, 0 where they can be used:
-- 1, RAM not 16,384 words; then 10, buffer too short
unfoldable pub size_refusal : ℕ → ℕ → ℕ → ℕ
size_refusal bytes words room =
    cond (eqb words card_words) (cond (ltb room (whole_room bytes)) 10 0) 1

-- how many bytes of text there are, every cell of the RAM, and every byte of the buffer
pub record Lent : Type 0 where
  pub count : ℕ
  pub ram : List ℕ
  pub out : List ℕ

abbrev pub lent : ℕ → List ℕ → List ℕ → Lent
lent count ram out = record { count = count; ram = ram; out = out }

-- the text stands from the buffer's first byte on, all behind it as it was
abbrev pub lent_after : Whole → List ℕ → Lent
lent_after all out =
    lent (length all.text) all.run.card.ram (sets out 0 all.text)

-- what a run of the recording leaves, or all as it was where a size is refused
unfoldable pub lent_run : List ℕ → List ℕ → List ℕ → Lent
lent_run recording ram out =
    cond (eqb (size_refusal (length recording) (length ram) (length out)) 0)
    (lent_after (whole_from (tray_over ram) recording) out)
    (lent 0 ram out)
