-- Which cells a message may change at a terminal that takes its command. Definitions only. Assumes
-- nothing.
use Rattle.std.specs.Prelude.{◌≡◌, true, ℕ, ◌≤◌, ◌<◌}
use Rattle.card.specs.declared.place.Block.{Block}
use Rattle.card.specs.declared.place.Cell.{Cell}
use Rattle.card.specs.Memory.{the_cell, word_address}
use Rattle.message.specs.declared.asked.Asked.{Asked}
use Rattle.message.specs.Asked.{asked_of}
use Rattle.terminal.specs.State.{Card}
use Rattle.terminal_laws.specs.Written.{WritesOnly}
use Rattle.rack.specs.Asked.{opened_for}

-- as many data cells of its block as it takes words, cells 58 to 61 of the block, and the link, in
-- the table cell; without a block none, since it takes no words then
pub data MayChange (asked : Asked) (block table : Block) (address : ℕ) : Type 0 where
  a_data_cell : {cell : ℕ} → cell < asked.takes → address ≡ word_address block (the_cell cell)
      → MayChange asked block table address
  a_service_cell : {cell : Cell} → asked.block ≡ true → 58 ≤ cell.0 → cell.0 ≤ 61
      → address ≡ word_address block cell → MayChange asked block table address
  the_link : asked.block ≡ true → address ≡ word_address table asked.cell
      → MayChange asked block table address

-- every other cell is as it was; block and table are those of the opening
abbrev pub ChangesOnly : ℕ → Card → Card → Type 0
ChangesOnly command old new =
    WritesOnly
    (MayChange (asked_of command) (opened_for command old).block (opened_for command old).table)
    old.ram new.ram
