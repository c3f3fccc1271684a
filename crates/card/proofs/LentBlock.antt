-- A block that is lent: its part of memory, as far as memory has it. What is done to the lent
-- cells, which are a memory of one block, is done to that block of the whole. Assumes nothing.
use Rattle.std.proofs.Common.{
  ◌≡◌,
  ℕ,
  ◌+◌,
  ◌-◌,
  ◌/◌,
  ◌%◌,
  min,
  List,
  length,
  set,
  sym,
  ◌∙◌,
  arith,
}
use Rattle.std.specs.declared.ops.Range.{Range}
use native.Mathlib.Decide.{dec_lt}
use lib.Seq.{set_out}
use borrow.Rule.Slice.PartMut.{mid_of, put_mid, mid_len, put_same, same_len_mid}
use Rattle.rules.proofs.LentPart.{lent_store}
use Rattle.card.specs.declared.place.Block.{Block}
use Rattle.card.specs.declared.place.Cell.{Cell}
use Rattle.card.specs.Memory.{
  block_cells,
  the_block,
  the_cell,
  word_address,
  with_cell,
  with_service,
}
use Rattle.card.specs.Lent.{LentCells}
use Rattle.card.proofs.MemoryLaws.{length_with_cell, with_cell_inside, with_cell_past}

module _ {ram : List ℕ} {block : Block} {lent : Range ℕ} (cells : LentCells ram block lent) where
  count_is : lent.end - lent.start ≡ min block_cells (length ram - lent.start)
  count_is = omega (arith, cells.starts, cells.ends)

  part_long : length (mid_of lent.start (lent.end - lent.start) ram) ≡ lent.end - lent.start
  part_long = mid_len lent.start lent.end ram (omega (arith, cells.starts, cells.ends))

  -- memory with the lent cells put back
  abbrev whole : List ℕ → List ℕ
  whole part = put_mid lent.start (lent.end - lent.start) ram part

  module _ (part : List ℕ) (long : length part ≡ lent.end - lent.start) where
    -- where memory ends before the block, neither address is in it
    same_place : (cell : Cell) (word : ℕ)
        → set (whole part) (lent.start + cell.0) word
        ≡ set (whole part) (word_address block cell) word
    same_place cell word =
        let same : length (whole part) ≡ length ram =
        same_len_mid lent.start (lent.end - lent.start) ram part (long ∙ sym part_long) in
        elim (dec_lt (word_address block (the_cell 0)) (length ram)) [
          | yes inside ↦
              let address : lent.start + cell.0 ≡ word_address block cell =
              omega (arith, cells.starts) in
              rw address
          | no out ↦
              rw (
                set_out (whole part) (lent.start + cell.0) word (omega (arith, cells.starts)),
                set_out (whole part) (word_address block cell) word (omega arith),
              )
        ]

    -- a store to the lent cells, which are a memory of one block, is the store to that block
    stored_in_part : (cell : Cell) (word : ℕ)
        → whole (with_cell part (the_block 0) cell word) ≡ with_cell (whole part) block cell word
    stored_in_part cell word =
        elim (dec_lt cell.0 block_cells) [
          | yes in_block ↦
              let alone : word_address (the_block 0) cell ≡ cell.0 = omega arith in
              rw (
                with_cell_inside part (the_block 0) cell word in_block,
                alone,
                with_cell_inside (whole part) block cell word in_block,
              )
              (lent_store ram lent.start (lent.end - lent.start) part cell.0 word block_cells
              (omega (arith, cells.starts)) count_is (long ∙ sym part_long) long in_block
              ∙ same_place cell word)
          | no past ↦
              rw (
                ← with_cell_past part (the_block 0) cell word (omega arith),
                ← with_cell_past (whole part) block cell word (omega arith),
              )
        ]

  -- the service cells, one after the other
  served_in_part : (part : List ℕ) (state closing ticks : ℕ) → length part ≡ lent.end - lent.start
      → whole (with_service part (the_block 0) state closing ticks)
      ≡ with_service (whole part) block state closing ticks
  unfolding with_service
  served_in_part part state closing ticks long =
      let part58 : List ℕ = with_cell part (the_block 0) (the_cell 58) state in
      let part59 : List ℕ = with_cell part58 (the_block 0) (the_cell 59) (closing / 65536) in
      let part60 : List ℕ = with_cell part59 (the_block 0) (the_cell 60) (closing % 65536) in
      let long58 : length part58 ≡ lent.end - lent.start =
      length_with_cell part (the_block 0) (the_cell 58) state ∙ long in
      let long59 : length part59 ≡ lent.end - lent.start =
      length_with_cell part58 (the_block 0) (the_cell 59) (closing / 65536) ∙ long58 in
      let long60 : length part60 ≡ lent.end - lent.start =
      length_with_cell part59 (the_block 0) (the_cell 60) (closing % 65536) ∙ long59 in
      rw (
        stored_in_part part60 long60 (the_cell 61) ticks,
        stored_in_part part59 long59 (the_cell 60) (closing % 65536),
        stored_in_part part58 long58 (the_cell 59) (closing / 65536),
        stored_in_part part long (the_cell 58) state,
      )

  -- ---- for the functions that lend: memory as it is when the cells are back

  pub lent_cell : (part : List ℕ) (cell : Cell) (word : ℕ)
      → part ≡ with_cell (mid_of lent.start (lent.end - lent.start) ram) (the_block 0) cell word
      → put_mid lent.start (lent.end - lent.start) ram part ≡ with_cell ram block cell word
  lent_cell part cell word is =
      rw is
      (stored_in_part (mid_of lent.start (lent.end - lent.start) ram) part_long cell word
      ∙ rw (put_same lent.start (lent.end - lent.start) ram))

  pub lent_service : (part : List ℕ) (state closing ticks : ℕ)
      → part
      ≡ with_service (mid_of lent.start (lent.end - lent.start) ram) (the_block 0) state closing
      ticks
      → put_mid lent.start (lent.end - lent.start) ram part
      ≡ with_service ram block state closing ticks
  lent_service part state closing ticks is =
      rw is
      (served_in_part (mid_of lent.start (lent.end - lent.start) ram) state closing ticks part_long
      ∙ rw (put_same lent.start (lent.end - lent.start) ram))
