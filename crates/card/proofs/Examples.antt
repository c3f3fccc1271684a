-- The definitions pinned, by computation; the other worked cases are rows of `vectors`. The numbers
-- are those of document 01 where it has them. Assumes nothing.
use Rattle.std.proofs.Common.{◌≡◌, true, [], ◌∷◌, refl}
use Rattle.card.specs.Memory.{the_block, the_cell, word_address, with_cell}
use Rattle.card.specs.TableWord.{block_of}
use Rattle.card.specs.StateWord.{state_word}
use Rattle.card.specs.Time.{ticks_of}

state_word_of_block_2 : word_address (the_block 2) (the_cell 58) ≡ 186
state_word_of_block_2 = refl

a_cell_past_63_is_not_there : with_cell (1 ∷ 2 ∷ []) (the_block 0) (the_cell 64) 9 ≡ 1 ∷ 2 ∷ []
unfolding with_cell
a_cell_past_63_is_not_there = refl

-- (j) of document 01
link_0103_names_block_3 : block_of 0x0103 ≡ the_block 3
link_0103_names_block_3 = refl

every_bit_of_a_state_word :
    state_word (record {
      line = true;
      fault = true;
      broadcast = true;
      second = true;
      busy = true;
      code = 7;
      words = 32;
    })
    ≡ 0xFF20
unfolding state_word
every_bit_of_a_state_word = refl

-- (c) of document 01
over_the_top : ticks_of 0xFFFFFFF0 0x00000010 ≡ 32
over_the_top = refl
