-- Words in the cells of a block, for memory of any length: several that are stored one after the
-- other stand there, and a part of memory is the words of its cells. Assumes nothing.
use Rattle.std.proofs.Common.{
  ◌≡◌,
  ℕ,
  zero,
  suc,
  ◌+◌,
  ◌<◌,
  ◌≤◌,
  ◌≢◌,
  List,
  [],
  ◌∷◌,
  length,
  get_or,
  take,
  drop,
  sym,
  refl,
  ap,
  ◌∙◌,
  add-zero,
  arith,
  length-drop,
  length-take,
  get_or-drop,
  get_or-take,
  ext_get_or,
}
use Rattle.card.specs.declared.place.Block.{Block}
use Rattle.card.specs.declared.place.Cell.{Cell}
use Rattle.card.specs.Memory.{block_cells, the_cell, word_address, cell_at, with_cell, with_cells}
use Rattle.card.proofs.MemoryLaws.{length_with_cell, cell_of_with_cell}
use Rattle.card.proofs.Frame.{cell_keeps}

-- ---- one word

module _ (ram : List ℕ) (block : Block) (cell : Cell) (word : ℕ) where
  -- it leaves every other cell of its block
  pub cell_beside : (other : Cell) → other.0 ≢ cell.0
      → cell_at (with_cell ram block cell word) block other ≡ cell_at ram block other
  unfolding cell_at
  cell_beside other beside =
      (cell_keeps block cell word).same_else ram (word_address block other)
      (λ same. beside (omega arith))

-- ---- several words, one after the other from a cell on

pub length_with_cells : (words ram : List ℕ) (block : Block) (cell : ℕ)
    → length (with_cells ram block cell words) ≡ length ram
unfolding with_cells
length_with_cells [] ram block cell = refl
length_with_cells (word ∷ words) ram block cell =
    length_with_cells words (with_cell ram block (the_cell cell) word) block (cell + 1)
    ∙ length_with_cell ram block (the_cell cell) word

-- the cells before the first are kept
pub cell_before_cells : (words ram : List ℕ) (block : Block) (cell before : ℕ) → before < cell
    → cell_at (with_cells ram block cell words) block (the_cell before)
    ≡ cell_at ram block (the_cell before)
unfolding with_cells
cell_before_cells [] ram block cell before less = refl
cell_before_cells (word ∷ words) ram block cell before less =
    cell_before_cells words (with_cell ram block (the_cell cell) word) block (cell + 1) before
    (omega arith)
    ∙ cell_beside ram block (the_cell cell) word (the_cell before) (λ same. omega arith)

-- each word stands in its cell
pub cell_of_with_cells : (words ram : List ℕ) (block : Block) (cell place : ℕ)
    → place < length words → cell + length words ≤ block_cells
    → word_address block (the_cell (cell + length words)) ≤ length ram
    → cell_at (with_cells ram block cell words) block (the_cell (cell + place))
    ≡ get_or words place 0
unfolding with_cells
cell_of_with_cells [] ram block cell place inside few in_memory = absurd (omega arith)
cell_of_with_cells (word ∷ words) ram block cell zero inside few in_memory =
    rw add-zero
    (cell_before_cells words (with_cell ram block (the_cell cell) word) block (cell + 1) cell
    (omega arith)
    ∙ cell_of_with_cell ram block (the_cell cell) word (omega arith) (omega arith))
cell_of_with_cells (word ∷ words) ram block cell (suc place) inside few in_memory =
    let next : cell + suc place ≡ cell + 1 + place = omega arith in
    rw next
    (cell_of_with_cells words (with_cell ram block (the_cell cell) word) block (cell + 1) place
    (omega arith)
    (omega arith) (rw (length_with_cell ram block (the_cell cell) word) (omega arith)))

-- ---- a part of memory, from a block's cell 0 on

-- each of its words is a cell's
pub cell_of_part : (ram : List ℕ) (block : Block) (count cell : ℕ) → cell < count
    → get_or (take count (drop (word_address block (the_cell 0)) ram)) cell 0
    ≡ cell_at ram block (the_cell cell)
unfolding cell_at
cell_of_part ram block count cell inside =
    let at : word_address block (the_cell 0) + cell ≡ word_address block (the_cell cell) =
    omega arith in
    get_or-take count (drop (word_address block (the_cell 0)) ram) cell 0 inside
    ∙ get_or-drop (word_address block (the_cell 0)) ram cell 0
    ∙ ap (λ (address : ℕ). get_or ram address 0) at

-- the same words in the cells make the same part
pub part_of_same_cells : (ram other : List ℕ) (block : Block) (count : ℕ)
    → length ram ≡ length other
    → ((cell : Cell) → cell.0 < count → cell_at ram block cell ≡ cell_at other block cell)
    → take count (drop (word_address block (the_cell 0)) ram)
    ≡ take count (drop (word_address block (the_cell 0)) other)
part_of_same_cells ram other block count long same =
    let start = word_address block (the_cell 0) in
    ext_get_or 0 (take count (drop start ram)) (take count (drop start other))
    (simp (length-take, length-drop, long))
    (λ cell inside.
    let below : cell < count = omega (arith, simp length-take at inside) in
    cell_of_part ram block count cell below
    ∙ same (the_cell cell) below
    ∙ sym (cell_of_part other block count cell below))
