-- The control word of documents 001 and 003: bits 13 to 6 block, 5 line, 4 go on, 3 to 0 format
-- code; 15 and 14 are not looked at. Definitions only. Assumes nothing.
use Rattle.std.specs.Prelude.{Bool, ℕ, ◌/◌, ◌%◌}
use Rattle.bits.specs.Bit.{has_bit}
use Rattle.card.specs.declared.place.Block.{Block}
use Rattle.card.specs.Memory.{the_block}

abbrev pub block_in : ℕ → Block
block_in control = the_block (control / 64 % 256)

-- line B
abbrev pub line_in : ℕ → Bool
line_in control = has_bit control 32

abbrev pub goes_on : ℕ → Bool
goes_on control = has_bit control 16

abbrev pub code_in : ℕ → ℕ
code_in control = control % 16
