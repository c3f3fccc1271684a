-- Two memories that agree but for the cells that broken messages cost: what both do keeps them so,
-- and so does what one does to such a cell. For any set of blocks and any length of memory.
-- Assumes nothing.
use mathlib.Core.Path.{◌≡◌, refl, sym, subst, ◌∙◌}
use mathlib.Core.Bool.{Bool, true, false}
use mathlib.Core.List.{List, [], ◌∷◌}
use Prim.Native.Nat.{ℕ, suc, ◌≤◌, ◌<◌}
use native.Mathlib.Omega.{arith}
use native.Mathlib.Decide.{ℕ_discrete, dec_lt}
use lib.ListN.{length, get_or, set, take, drop, length-set}
use lib.Seq.{get_or-set_same, get_or-set_other, set_out, sets}
use Rattle.card.specs.declared.place.Block.{Block}
use Rattle.card.specs.declared.place.Cell.{Cell}
use Rattle.card.specs.Memory.{
  block_cells,
  data_cells,
  the_cell,
  word_address,
  cell_at,
  with_cell,
  with_service,
  with_link,
}
use Rattle.card.proofs.MemoryLaws.{same_block, with_cell_inside, with_cell_past}
use Rattle.card.proofs.CellLaws.{part_of_same_cells}
use Rattle.card.proofs.Frame.{Keeps, cell_keeps, service_keeps}
use Rattle.terminal.specs.Closing.{linked}
use Rattle.terminal_laws.specs.OneBlock.{Kept}

-- as long as each other, and every kept cell the same
pub record Agree (Spent : Block → Type 0) (ram other : List ℕ) : Type 0 where
  pub long : length ram ≡ length other
  pub cell : (address : ℕ) → Kept Spent address → get_or ram address 0 ≡ get_or other address 0

module _ {Spent : Block → Type 0} where
  -- ---- which cells are kept

  -- the link of any block
  pub link_kept : (block : Block) → Kept Spent (word_address block (the_cell 63))
  link_kept block =
      record {
        data_cell = λ other cell spent low same. omega arith;
        service_cell = λ other cell spent from to same. omega arith;
      }

  -- every cell of a block that was not spent
  pub unspent_kept : (block : Block) (cell : Cell) → (Spent block → ⊥) → cell.0 < block_cells
      → Kept Spent (word_address block cell)
  unspent_kept block cell unspent inside =
      record {
        data_cell = λ other cell' spent low same.
            unspent (subst Spent (same_block (omega arith)) spent);
        service_cell = λ other cell' spent from to same.
            unspent (subst Spent (same_block (omega arith)) spent);
      }

  -- ---- agreeing

  pub agree_refl : (ram : List ℕ) → Agree Spent ram ram
  agree_refl ram = record { long = refl; cell = λ address kept. refl }

  pub agree_sym : {ram other : List ℕ} → Agree Spent ram other → Agree Spent other ram
  agree_sym agree =
      record {
        long = sym agree.long;
        cell = λ address kept. sym (agree.cell address kept);
      }

  pub agree_trans : {first second third : List ℕ}
      → Agree Spent first second → Agree Spent second third → Agree Spent first third
  agree_trans agree then =
      record {
        long = agree.long ∙ then.long;
        cell = λ address kept. agree.cell address kept ∙ then.cell address kept;
      }

  -- a change that keeps to cells which are not kept
  pub agree_changed : {Written : ℕ → Type 0} {change : List ℕ → List ℕ} → Keeps Written change
      → ((address : ℕ) → Kept Spent address → Written address → ⊥)
      → (ram : List ℕ) → Agree Spent ram (change ram)
  agree_changed keeps lost ram =
      record {
        long = sym (keeps.same_length ram);
        cell = λ address kept. sym (keeps.same_else ram address (lost address kept));
      }

  -- a data word of a spent block, and its service cells
  pub agree_data : (block : Block) (cell : Cell) (word : ℕ) → Spent block → cell.0 < 32
      → (ram : List ℕ) → Agree Spent ram (with_cell ram block cell word)
  agree_data block cell word spent low =
      agree_changed (cell_keeps block cell word)
      (λ address kept. kept.data_cell block cell spent low)

  pub agree_service : (block : Block) (state closing ticks : ℕ) → Spent block
      → (ram : List ℕ) → Agree Spent ram (with_service ram block state closing ticks)
  agree_service block state closing ticks spent =
      agree_changed (service_keeps block state closing ticks)
      (λ address kept written.
      kept.service_cell block written.cell spent written.from written.to
      written.is)

  -- ---- the same write to both

  module _ {ram other : List ℕ} where
    both_set : (address word : ℕ) → Agree Spent ram other
        → Agree Spent (set ram address word) (set other address word)
    both_set address word agree =
        record {
          long = simp length-set agree.long;
          cell = λ at kept. go at kept (ℕ_discrete at address) (dec_lt address (length ram));
        }
      where
        go : (at : ℕ) → Kept Spent at → Dec (at ≡ address) → Dec (address < length ram)
            → get_or (set ram address word) at 0 ≡ get_or (set other address word) at 0
        go at kept (yes is) (yes inside) =
            rw is
            (get_or-set_same ram address word 0 inside
            ∙ sym (get_or-set_same other address word 0 (omega (arith, agree.long))))
        go at kept (yes is) (no past) =
            rw (
              set_out ram address word (omega arith),
              set_out other address word (omega (arith, agree.long)),
            )
            (agree.cell at kept)
        go at kept (no apart) inside =
            rw (
              get_or-set_other ram address at word 0 apart,
              get_or-set_other other address at word 0 apart,
            )
            (agree.cell at kept)

    pub both_cell : (block : Block) (cell : Cell) (word : ℕ) → Agree Spent ram other
        → Agree Spent (with_cell ram block cell word) (with_cell other block cell word)
    both_cell block cell word agree =
        elim (dec_lt cell.0 block_cells) [
          | yes inside ↦
              rw (
                with_cell_inside ram block cell word inside,
                with_cell_inside other block cell word inside,
              )
              (both_set (word_address block cell) word agree)
          | no past ↦
              rw (
                ← with_cell_past ram block cell word (omega arith),
                ← with_cell_past other block cell word (omega arith),
              )
              agree
        ]

  pub both_words : {ram other : List ℕ} (address : ℕ) (words : List ℕ) → Agree Spent ram other
      → Agree Spent (sets ram address words) (sets other address words)
  both_words address [] agree = agree
  both_words address (word ∷ words) agree =
      both_words (suc address) words (both_set address word agree)

  pub both_service : {ram other : List ℕ} (block : Block) (state closing ticks : ℕ)
      → Agree Spent ram other
      → Agree Spent (with_service ram block state closing ticks)
      (with_service other block state closing ticks)
  unfolding with_service
  both_service block state closing ticks agree =
      both_cell _ _ _ (both_cell _ _ _ (both_cell _ _ _ (both_cell _ _ _ agree)))

  -- the chain rule: the link is a kept cell, so the same word goes into the same table cell
  pub both_link : {ram other : List ℕ} (block table : Block) (cell : Cell) → Agree Spent ram other
      → Agree Spent (with_link ram block table cell) (with_link other block table cell)
  unfolding with_link cell_at
  both_link block table cell agree =
      rw (agree.cell (word_address block (the_cell 63)) (link_kept block)) (both_cell _ _ _ agree)

  pub both_linked : {ram other : List ℕ} (moved : Bool) (block table : Block) (cell : Cell)
      → Agree Spent ram other
      → Agree Spent (linked moved block table cell ram) (linked moved block table cell other)
  both_linked true block table cell agree = agree
  both_linked false block table cell agree = both_link block table cell agree

  -- ---- reading

  -- a cell of a block that was not spent, as one of the table
  pub same_table_word : {ram other : List ℕ} (table : Block) (cell : Cell) → (Spent table → ⊥)
      → cell.0 < block_cells → Agree Spent ram other
      → cell_at ram table cell ≡ cell_at other table cell
  unfolding cell_at
  same_table_word table cell unspent inside agree =
      agree.cell (word_address table cell) (unspent_kept table cell unspent inside)

  -- the words that a block sends
  pub same_part : {ram other : List ℕ} (block : Block) (count : ℕ) → (Spent block → ⊥)
      → count ≤ data_cells → Agree Spent ram other
      → take count (drop (word_address block (the_cell 0)) ram)
      ≡ take count (drop (word_address block (the_cell 0)) other)
  same_part {ram} {other} block count unspent low agree =
      part_of_same_cells ram other block count agree.long
      (λ cell below. same_table_word block cell unspent (omega arith) agree)
