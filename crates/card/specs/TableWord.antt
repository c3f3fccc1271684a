-- A table word, in the table or as a link in cell 63. Definitions only. Assumes nothing.
use Rattle.std.specs.Prelude.{ℕ, ◌%◌, Bool}
use Rattle.bits.specs.Bit.{has_bit}
use Rattle.card.specs.declared.place.Block.{Block}
use Rattle.card.specs.Memory.{card_blocks, the_block}

-- bit 15: busy
abbrev pub is_busy : ℕ → Bool
is_busy word = has_bit word 32768

-- bit 14: a closing joins the queue
abbrev pub wants_queue : ℕ → Bool
wants_queue word = has_bit word 16384

-- bits 9 to 0, taken modulo the card's 256 blocks: the block
abbrev pub block_of : ℕ → Block
block_of word = the_block (word % 1024 % card_blocks)
