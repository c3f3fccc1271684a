-- What a write leaves alone, for memory of any length and so for any number of blocks.
--     other-blocks-kept    a change that keeps to one block leaves every cell of every other
--     cell-keeps, cells-keep, service-keeps, link-keeps, words-keep    which cells each write
--                          keeps to
--     link-moves           what stands in the table cell after `cell 63 into the table cell`
-- Assumes nothing.
use Rattle.std.proofs.Common.{
  ◌≡◌,
  ℕ,
  suc,
  ◌+◌,
  ◌/◌,
  ◌%◌,
  ◌<◌,
  ◌≤◌,
  ◌≢◌,
  List,
  [],
  ◌∷◌,
  length,
  get_or,
  set,
  sym,
  refl,
  ◌∙◌,
  subst,
  arith,
  get_or-set_other,
}
use native.Mathlib.Decide.{dec_lt}
use lib.Seq.{sets, length-sets}
use Rattle.card.specs.declared.place.Block.{Block}
use Rattle.card.specs.declared.place.Cell.{Cell}
use Rattle.card.specs.Memory.{
  block_cells,
  the_cell,
  word_address,
  cell_at,
  with_cell,
  with_cells,
  with_service,
  with_link,
}
use Rattle.card.proofs.MemoryLaws.{
  addresses_apart,
  length_with_cell,
  with_cell_inside,
  cell_of_with_cell,
  with_cell_past,
}

-- ---- changes that keep to some addresses

-- the change writes only where `Written` holds, and memory stays as long as it was
pub record Keeps (Written : ℕ → Type 0) (change : List ℕ → List ℕ) : Type 0 where
  pub same_length : (ram : List ℕ) → length (change ram) ≡ length ram
  pub same_else : (ram : List ℕ) (address : ℕ) → (Written address → ⊥)
      → get_or (change ram) address 0 ≡ get_or ram address 0

module _ {Written : ℕ → Type 0} where
  -- one after the other
  pub keeps_then : {first then : List ℕ → List ℕ} → Keeps Written first → Keeps Written then
      → Keeps Written (λ ram. then (first ram))
  keeps_then {first} {then} kept_first Kept-then =
      record {
        same_length = λ ram. Kept-then.same_length (first ram) ∙ kept_first.same_length ram;
        same_else = λ ram address else.
            Kept-then.same_else (first ram) address else ∙ kept_first.same_else ram address else;
      }

  -- what keeps to some addresses keeps to more
  pub keeps_to_more : {More : ℕ → Type 0} {change : List ℕ → List ℕ}
      → ((address : ℕ) → Written address → More address) → Keeps Written change → Keeps More change
  keeps_to_more more kept =
      record {
        same_length = kept.same_length;
        same_else = λ ram address else.
            kept.same_else ram address (λ written. else (more address written));
      }

-- the address is that of one of the block's cells from `first` to `last`
pub record InCells (block : Block) (first last address : ℕ) : Type 0 where
  pub cell : Cell
  pub from : first ≤ cell.0
  pub to : cell.0 ≤ last
  pub is : address ≡ word_address block cell

-- a change that keeps to one block leaves every cell of every other block
pub other_blocks_kept : {block : Block} {change : List ℕ → List ℕ}
    → Keeps (InCells block 0 63) change
    → (ram : List ℕ) (other : Block) (cell : Cell) → other ≢ block → cell.0 < block_cells
    → cell_at (change ram) other cell ≡ cell_at ram other cell
unfolding cell_at
other_blocks_kept kept ram other cell apart inside =
    kept.same_else ram (word_address other cell)
    (λ written. addresses_apart (omega (arith, written.to)) inside apart written.is)

-- ---- the writes

-- a store to a cell keeps to that cell
pub cell_keeps : (block : Block) (cell : Cell) (word : ℕ)
    → Keeps (λ address. address ≡ word_address block cell) (λ ram. with_cell ram block cell word)
cell_keeps block cell word =
    record {
      same_length = λ ram. length_with_cell ram block cell word;
      same_else = λ ram address else.
          elim (dec_lt cell.0 block_cells) [
            | yes inside ↦
                rw (with_cell_inside ram block cell word inside)
                (get_or-set_other ram (word_address block cell) address word 0 else)
            | no past ↦ rw (← with_cell_past ram block cell word (omega arith))
          ];
    }

-- words into cells, one after the other, keep to these
pub cells_keep : {Written : ℕ → Type 0} (words : List ℕ) (block : Block) (first : ℕ)
    → ((cell : ℕ) → first ≤ cell → cell < first + length words
    → Written (word_address block (the_cell cell)))
    → Keeps Written (λ ram. with_cells ram block first words)
unfolding with_cells
cells_keep [] block first may =
    record { same_length = λ ram. refl; same_else = λ ram address else. refl }
cells_keep {Written} (word ∷ words) block first may =
    keeps_then
    (keeps_to_more
    (λ address is. subst Written (sym is) (may first (omega arith) (omega arith)))
    (cell_keeps block (the_cell first) word))
    (cells_keep words block (first + 1)
    (λ cell from to. may cell (omega (arith, from)) (omega (arith, to))))

-- the service cells alone
pub service_keeps : (block : Block) (state closing ticks : ℕ)
    → Keeps (InCells block 58 61) (λ ram. with_service ram block state closing ticks)
unfolding with_service
service_keeps block state closing ticks =
    keeps_then (kept (the_cell 58) state (omega arith) (omega arith))
    (keeps_then (kept (the_cell 59) (closing / 65536) (omega arith) (omega arith))
    (keeps_then (kept (the_cell 60) (closing % 65536) (omega arith) (omega arith))
    (kept (the_cell 61) ticks (omega arith) (omega arith))))
  where
    kept : (cell : Cell) (word : ℕ) → 58 ≤ cell.0 → cell.0 ≤ 61
        → Keeps (InCells block 58 61) (λ ram. with_cell ram block cell word)
    kept cell word from to =
        keeps_to_more (λ address is. record { cell = cell; from = from; to = to; is = is })
        (cell_keeps block cell word)

-- the chain rule's ground: `cell 63 into the table cell` leaves every cell but the table cell ..
pub link_keeps : (block table : Block) (cell : Cell)
    → Keeps (λ address. address ≡ word_address table cell) (λ ram. with_link ram block table cell)
unfolding with_link
link_keeps block table cell =
    record {
      same_length =
          λ ram. (cell_keeps table cell (cell_at ram block (the_cell 63))).same_length ram;
      same_else = λ ram address else.
          (cell_keeps table cell (cell_at ram block (the_cell 63))).same_else ram address else;
    }

-- .. and that one holds the link
pub link_moves : (ram : List ℕ) (block table : Block) (cell : Cell) → cell.0 < block_cells
    → word_address table cell < length ram
    → cell_at (with_link ram block table cell) table cell ≡ cell_at ram block (the_cell 63)
unfolding with_link
link_moves ram block table cell inside on_card =
    cell_of_with_cell ram table cell (cell_at ram block (the_cell 63)) inside on_card

-- the host's words, from an address on
pub words_keep : (address : ℕ) (words : List ℕ)
    → Keeps (λ at. (address ≤ at) × (at < address + length words)) (λ ram. sets ram address words)
words_keep address words =
    record {
      same_length = λ ram. length-sets ram address words;
      same_else = λ ram at else. kept words ram address at else;
    }
  where
    kept : (words ram : List ℕ) (address at : ℕ)
        → ((address ≤ at) × (at < address + length words) → ⊥)
        → get_or (sets ram address words) at 0 ≡ get_or ram at 0
    kept [] ram address at else = refl
    kept (word ∷ words) ram address at else =
        kept words (set ram address word) (suc address) at
        (λ written. else (omega (arith, written.0), omega (arith, written.1)))
        ∙ get_or-set_other ram address at word 0
        (λ same. else (omega (arith, same), omega (arith, same)))
