-- The laws of `specs/Memory.antt`, for any number of blocks: the address law, and a store to a cell
-- that is there and to one that is not. Assumes nothing.
use Rattle.std.proofs.Common.{
  ◌≡◌,
  ℕ,
  ◌<◌,
  ◌≤◌,
  ◌≢◌,
  List,
  length,
  set,
  ap,
  arith,
  length-set,
  get_or-set_same,
  le-ltb,
  lt-ltb,
}
use native.Mathlib.Decide.{dec_lt}
use Rattle.card.specs.declared.place.Block.{Block}
use Rattle.card.specs.declared.place.Cell.{Cell}
use Rattle.card.specs.Memory.{
  block_cells,
  the_block,
  the_cell,
  word_address,
  cell_at,
  with_cell,
}

-- ---- addresses

-- blocks of one number are one block, and cells of one number one cell
pub same_block : {block other : Block} → block.0 ≡ other.0 → block ≡ other
same_block same = ap the_block same

pub same_cell : {cell other : Cell} → cell.0 ≡ other.0 → cell ≡ other
same_cell same = ap the_cell same

-- an address names one block and one cell
pub address_names : {block other : Block} {cell cell' : Cell}
    → cell.0 < block_cells → cell'.0 < block_cells
    → word_address block cell ≡ word_address other cell' → (block ≡ other) × (cell ≡ cell')
address_names in_block in_other same = (same_block (omega arith), same_cell (omega arith))

-- a cell of another block is at another address
pub addresses_apart : {block other : Block} {cell cell' : Cell}
    → cell.0 < block_cells → cell'.0 < block_cells
    → other ≢ block → word_address other cell' ≢ word_address block cell
addresses_apart in_block in_other apart same = apart (same_block (omega arith))

-- ---- a store

pub length_with_cell : (ram : List ℕ) (block : Block) (cell : Cell) (word : ℕ)
    → length (with_cell ram block cell word) ≡ length ram
unfolding with_cell
length_with_cell ram block cell word =
    elim (dec_lt cell.0 block_cells) [
      | yes inside ↦
          rw (lt-ltb cell.0 block_cells inside) (length-set ram (word_address block cell) word)
      | no past ↦ rw (le-ltb cell.0 block_cells (omega arith))
    ]

module _ (ram : List ℕ) (block : Block) (cell : Cell) (word : ℕ) where
  pub with_cell_inside : cell.0 < block_cells
      → with_cell ram block cell word ≡ set ram (word_address block cell) word
  unfolding with_cell
  with_cell_inside inside = rw (lt-ltb cell.0 block_cells inside)

  -- the word stands there
  pub cell_of_with_cell : cell.0 < block_cells → word_address block cell < length ram
      → cell_at (with_cell ram block cell word) block cell ≡ word
  unfolding cell_at
  cell_of_with_cell inside in_memory =
      rw (with_cell_inside inside) (get_or-set_same ram (word_address block cell) word 0 in_memory)

  -- there is no such cell in a block
  pub with_cell_past : block_cells ≤ cell.0 → ram ≡ with_cell ram block cell word
  unfolding with_cell
  with_cell_past past = rw (le-ltb cell.0 block_cells past)
