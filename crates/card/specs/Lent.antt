-- What a block's cells are lent as: the part of memory that starts at its cell 0, as far as memory
-- has it. Definitions only. Assumes nothing.
use Rattle.std.specs.Prelude.{◌≡◌, ℕ, ◌+◌, min, List, length}
use Rattle.std.specs.declared.ops.Range.{Range}
use Rattle.card.specs.declared.place.Block.{Block}
use Rattle.card.specs.Memory.{block_cells, the_cell, word_address}

pub record LentCells (ram : List ℕ) (block : Block) (lent : Range ℕ) : Type 0 where
  pub starts : lent.start ≡ min (word_address block (the_cell 0)) (length ram)
  pub ends : lent.end ≡ min (lent.start + block_cells) (length ram)
