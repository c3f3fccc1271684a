-- A part of memory that is shown: words of a block from its cell 0 on. Definitions only. Assumes
-- nothing.
use Rattle.std.specs.Prelude.{ℕ, cond, ◌&&◌, List, [], length, take, drop, ◌==◌, nat_le}
use Rattle.card.specs.declared.place.Block.{Block}
use Rattle.card.specs.Memory.{block_cells, words_in, the_cell, is_block, word_address}

-- 1 where the RAM is not that of so many blocks; 8 where the block is none of them, or the count
-- not 1 to the most, or more than a block has
unfoldable pub part_refusal : ℕ → ℕ → ℕ → Block → ℕ → ℕ
part_refusal blocks most size block count =
    cond (size == words_in blocks)
    (cond (is_block blocks block && nat_le 1 count && nat_le count most && nat_le count block_cells)
    0 8)
    1

-- the words; none where the part is refused
unfoldable pub shown_part : ℕ → ℕ → List ℕ → Block → ℕ → List ℕ
shown_part blocks most ram block count =
    cond (part_refusal blocks most (length ram) block count == 0)
    (take count (drop (word_address block (the_cell 0)) ram))
    []
