-- The host's write of words. Definitions only. Assumes nothing.
use Rattle.std.specs.Prelude.{ℕ, ◌+◌, Bool, cond, ◌&&◌, List, length, ◌==◌, nat_le}
use Rattle.std.proofs.lemmas.List.Edits.{sets}
use Rattle.card.specs.Memory.{words_in}

-- what an action on memory leaves: its refusal number, 0 for none, and memory
pub record Wrote : Type 0 where
  pub number : ℕ
  pub ram : List ℕ

abbrev pub wrote : ℕ → List ℕ → Wrote
wrote number ram = record { number = number; ram = ram }

-- a write has 1 to 64 words
abbrev pub most_written : ℕ
most_written = 64

-- whether so many words from an address on are a write, on a card of so many blocks: 1 to 64, and
-- none past its end
abbrev pub is_write : ℕ → ℕ → ℕ → Bool
is_write blocks address count =
    nat_le 1 count && nat_le count most_written && nat_le (address + count) (words_in blocks)

-- 1 where the RAM is not that of so many blocks; 8 where the words are no write
unfoldable pub host_write : ℕ → List ℕ → ℕ → List ℕ → Wrote
host_write blocks ram address words =
    cond (length ram == words_in blocks)
    (cond (is_write blocks address (length words))
    (wrote 0 (sets ram address words))
    (wrote 8 ram))
    (wrote 1 ram)
