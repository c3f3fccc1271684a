-- The words that a reply sends, on a card of any size: as many as are asked for, each the word of
-- its cell, and none where none is asked for. Assumes nothing.
use mathlib.Core.Path.{◌≡◌, ap, ◌∙◌}
use mathlib.Core.List.{List, []}
use Prim.Native.Nat.{ℕ, zero, suc, ◌≤◌, ◌<◌}
use native.Mathlib.Omega.{arith}
use lib.ListN.{length, get_or, take, drop, length-drop}
use lib.Seq.{length-take-le}
use borrow.Author.Tests.{eq-eqb, ne_eqb, le-leb, lt-ltb}
use Rattle.card.specs.declared.place.Block.{Block}
use Rattle.card.specs.Memory.{block_cells, data_cells, words_in, the_cell, word_address, cell_at}
use Rattle.card.specs.Part.{part_refusal, shown_part}
use Rattle.card.specs.Sent.{sent_part}
use Rattle.card.proofs.CellLaws.{cell_of_part}
use Rattle.card.proofs.PartLaws.{Shown, shown}

-- no words are no part
pub none_sent : (blocks : ℕ) (ram : List ℕ) (block : Block) → sent_part blocks ram block 0 ≡ []
unfolding shown_part
none_sent blocks ram block =
    rw (ne_eqb (part_refusal blocks data_cells (length ram) block 0) 0
    (λ none. omega (arith, (shown blocks data_cells (length ram) block 0 none).some)))

-- a part that is asked for rightly is shown
part_is_shown : (blocks most : ℕ) (ram : List ℕ) (block : Block) (count : ℕ)
    → Shown blocks most (length ram) block count
    → shown_part blocks most ram block count
    ≡ take count (drop (word_address block (the_cell 0)) ram)
unfolding shown_part part_refusal
part_is_shown blocks most ram block count right =
    rw (
      eq-eqb (length ram) (words_in blocks) right.whole_card_lem,
      lt-ltb block.0 blocks right.on_card,
      le-leb 1 count right.some,
      le-leb count most right.at_most,
      le-leb count block_cells right.in_block,
    )

module _ (blocks : ℕ) (ram : List ℕ) (block : Block) (whole : length ram ≡ words_in blocks)
    (on_card : block.0 < blocks) where
  some_sent : (count : ℕ) → 1 ≤ count → count ≤ data_cells
      → sent_part blocks ram block count ≡ take count (drop (word_address block (the_cell 0)) ram)
  some_sent count some few =
      part_is_shown blocks data_cells ram block count (record {
        whole_card_lem = whole;
        on_card = on_card;
        some = some;
        at_most = few;
        in_block = omega arith;
      })

  pub sent_length : (count : ℕ) → count ≤ data_cells
      → length (sent_part blocks ram block count) ≡ count
  sent_length zero few = ap (λ (words : List ℕ). length words) (none_sent blocks ram block)
  sent_length (suc count) few =
      let start = word_address block (the_cell 0) in
      ap (λ (words : List ℕ). length words) (some_sent (suc count) (omega arith) few)
      ∙ length-take-le (suc count) (drop start ram) (rw (length-drop start ram) (omega arith))

  pub sent_cell : (count : ℕ) → count ≤ data_cells → (cell : ℕ) → cell < count
      → get_or (sent_part blocks ram block count) cell 0 ≡ cell_at ram block (the_cell cell)
  sent_cell count few cell below =
      ap (λ (words : List ℕ). get_or words cell 0) (some_sent count (omega arith) few)
      ∙ cell_of_part ram block count cell below
