-- Which cells the controller writes: those of the words that come back, and no other; so never a
-- cell 63, and never the words given. Definitions only; proved in `proofs/WrittenLaws`. Assumes
-- nothing.
use Rattle.std.specs.Prelude.{◌≡◌, ℕ, ◌≤◌, length, get_or, Some}
use Rattle.card.specs.declared.place.Cell.{Cell}
use Rattle.card.specs.Memory.{word_address}
use Rattle.formats.specs.Row.{highest_cell}
use Rattle.exchange.specs.Order.{format_for}
use Rattle.controller.specs.declared.state.OpenMessage.{OpenMessage}
use Rattle.controller.specs.Control.{block_in}
use Rattle.controller.specs.State.{Desk}

-- the address is that of a cell where a word of the open message may come back: behind the words
-- given, in its block
pub record ComesBack (old : Desk) (address : ℕ) : Type 0 where
  pub message : OpenMessage
  pub is_open : old.state.message ≡ Some message
  pub cell : Cell
  pub behind_given : (format_for message.order).given ≤ cell.0
  pub at_most : cell.0 ≤ highest_cell
  pub is : address ≡ word_address (block_in old.state.control) cell

-- every other cell is as it was
pub record WritesOnlyBack (old new : Desk) : Type 0 where
  pub same_length : length new.ram ≡ length old.ram
  pub same_else : (address : ℕ) → (ComesBack old address → ⊥)
      → get_or new.ram address 0 ≡ get_or old.ram address 0
