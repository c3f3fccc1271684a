-- The words to send, as a part of memory: 32 at the most. Definitions only. Assumes nothing.
use Rattle.std.specs.Prelude.{ℕ, List}
use Rattle.card.specs.declared.place.Block.{Block}
use Rattle.card.specs.Memory.{data_cells}
use Rattle.card.specs.Part.{part_refusal, shown_part}

-- 1 where the RAM is not that of so many blocks; 8 where the block is none of them or the count not
-- 1 to 32
abbrev pub sent_refusal : ℕ → ℕ → Block → ℕ → ℕ
sent_refusal blocks size block count = part_refusal blocks data_cells size block count

-- the words from the block's cell 0 on, on a card of so many blocks; none where the part is refused
abbrev pub sent_part : ℕ → List ℕ → Block → ℕ → List ℕ
sent_part blocks ram block count = shown_part blocks data_cells ram block count
