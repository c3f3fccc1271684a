-- Card memory as the list of its words, and the cells of its blocks. Where a cell lies and what a
-- store to it does hangs on no size of card. Definitions only. Assumes nothing.
use Rattle.std.specs.Prelude.{
  ℕ,
  ◌+◌,
  ◌*◌,
  ◌/◌,
  ◌%◌,
  Bool,
  cond,
  List,
  [],
  ◌∷◌,
  nat_lt,
  slice_index,
  slice_set,
}
use Rattle.card.specs.declared.place.Block.{Block}
use Rattle.card.specs.declared.place.Cell.{Cell}

-- ---- sizes: the cells of a block and those of them that hold data words, 0 to 31; the blocks of a
-- card and its words

abbrev pub block_cells : ℕ
block_cells = 64

abbrev pub data_cells : ℕ
data_cells = 32

abbrev pub card_blocks : ℕ
card_blocks = 256

-- the words of a card of so many blocks
abbrev pub words_in : ℕ → ℕ
words_in blocks = block_cells * blocks

abbrev pub card_words : ℕ
card_words = words_in card_blocks

-- ---- places

-- the block and the cell of a number: they are counted apart, and neither is the other
abbrev pub the_block : ℕ → Block
the_block number = record { 0 = number }

abbrev pub the_cell : ℕ → Cell
the_cell number = record { 0 = number }

-- whether a block is there, on a card of so many
abbrev pub is_block : ℕ → Block → Bool
is_block blocks block = nat_lt block.0 blocks

-- a word address is 64 × block + cell
abbrev pub word_address : Block → Cell → ℕ
word_address block cell = block_cells * block.0 + cell.0

-- the word in a cell of a block, and 0 past the end of memory
unfoldable pub cell_at : List ℕ → Block → Cell → ℕ
cell_at ram block cell = slice_index ram (word_address block cell)

-- memory with a word stored in a cell of a block, which has the cells 0 to 63
unfoldable pub with_cell : List ℕ → Block → Cell → ℕ → List ℕ
with_cell ram block cell word =
    cond (nat_lt cell.0 block_cells) (slice_set ram (word_address block cell) word) ram

-- memory with words stored in a block, one after the other from a cell on
unfoldable pub with_cells : List ℕ → Block → ℕ → List ℕ → List ℕ
with_cells ram block cell [] = ram
with_cells ram block cell (word ∷ words) =
    with_cells (with_cell ram block (the_cell cell) word) block (cell + 1) words

-- memory with a block's service cells written: 58 state word, 59 and 60 closing time by halves,
-- 61 ticks
unfoldable pub with_service : List ℕ → Block → ℕ → ℕ → ℕ → List ℕ
with_service ram block state closing ticks =
    let with58 : List ℕ = with_cell ram block (the_cell 58) state in
    let with59 : List ℕ = with_cell with58 block (the_cell 59) (closing / 65536) in
    let with60 : List ℕ = with_cell with59 block (the_cell 60) (closing % 65536) in
    with_cell with60 block (the_cell 61) ticks

-- memory with a block's link, cell 63, read into a cell of the table
unfoldable pub with_link : List ℕ → Block → Block → Cell → List ℕ
with_link ram block table cell = with_cell ram table cell (cell_at ram block (the_cell 63))
