-- Which cells one event may write, for memory of any length and so for any number of blocks: the
-- terminal never writes other cells of a message's block, save the table cell where that block is
-- the table. Definitions only; proved in `proofs/StepFrame`. Assumes nothing.
use Rattle.std.specs.Prelude.{◌≡◌, ◌≢◌, Bool, true, false, List, ℕ, ◌+◌, ◌≤◌, ◌<◌, length, get_or}
use Rattle.bus.specs.declared.word.Word.{Word}
use Rattle.card.specs.declared.place.Block.{Block}
use Rattle.card.specs.declared.place.Cell.{Cell}
use Rattle.card.specs.Memory.{block_cells, the_cell, word_address}
use Rattle.message.specs.declared.asked.Asked.{Asked}
use Rattle.message.specs.declared.judge.WordAct.TheVariants.{Store}
use Rattle.message.specs.declared.state.OpenMessage.{OpenMessage}
use Rattle.message.specs.Asked.{asks, keeps_back}
use Rattle.terminal.specs.State.{Card}
use Rattle.terminal.specs.Event.{
  Event,
  word,
  silence,
  read_queue,
  host_write,
  move_table,
  set_flags,
}
use Rattle.terminal_laws.specs.Closes.{OpenWithBlock, word_judged, Closes}

-- the address of a message's table cell: in the table block of its opening
abbrev pub table_address : OpenMessage → ℕ
table_address message = word_address message.table (asks message).cell

-- the table cell that a closing writes is in another block than its message's
abbrev pub TableElsewhere : Asked → OpenMessage → Type 0
TableElsewhere asked message =
    asked.block ≡ true → message.moved ≡ false → message.block ≢ message.table

-- rule 8 stores the word in the next cell, which is a data cell; under busy data nothing is stored
pub record Stores (old : Card) (message : OpenMessage) (heard : Word) : Type 0 where
  pub next : ℕ
  pub by_rule_8 : word_judged old message heard ≡ Store next
  pub data_cell : message.taken < 32
  pub not_busy_data : keeps_back (asks message) message ≡ false

-- what an event may write: a message without a block writes nothing, nor does an opening, a queue
-- read, a setting of the table block or of the flags
pub data MayWrite (old : Card) : Event → ℕ → Type 0 where
  -- the next data cell of the open message's block
  data_cell : {message : OpenMessage} {heard : Word} {address : ℕ}
      → OpenWithBlock old message → Stores old message heard
      → address ≡ word_address message.block (the_cell message.taken)
      → MayWrite old (word heard) address
  -- cells 58 to 61 of the block of the message that the event closes
  service_cell : {message : OpenMessage} {event : Event} {cell : Cell} {address : ℕ}
      → OpenWithBlock old message → Closes old message event
      → 58 ≤ cell.0 → cell.0 ≤ 61 → address ≡ word_address message.block cell
      → MayWrite old event address
  -- the table cell of its opening, unless the host has set the table block since
  table_cell : {message : OpenMessage} {event : Event} {address : ℕ}
      → OpenWithBlock old message → Closes old message event → message.moved ≡ false
      → address ≡ table_address message
      → MayWrite old event address
  -- as many cells as the host writes words, from their address on
  host_cell : {start address : ℕ} {words : List ℕ}
      → start ≤ address → address < start + length words
      → MayWrite old (host_write start words) address

-- the claim: memory is as long as it was, and every cell that is not written is as it was
pub record WritesOnly (Written : ℕ → Type 0) (ram new : List ℕ) : Type 0 where
  pub same_length : length new ≡ length ram
  pub same_else : (address : ℕ) → (Written address → ⊥)
      → get_or new address 0 ≡ get_or ram address 0

-- ---- in document 01's words

-- the bus: words and silences
pub data OnBus : Event → Type 0 where
  a_word : {heard : Word} → OnBus (word heard)
  a_silence : {line : Bool} {time : ℕ} → OnBus (silence line time)

-- the host's actions that are no write of words
pub data OtherAction : Event → Type 0 where
  a_queue_read : OtherAction read_queue
  a_table_move : {table : Block} → OtherAction (move_table table)
  a_flags_write : {flags : ℕ} → OtherAction (set_flags flags)

-- a block's other cells, 32 to 57, 62 and the link: neither data nor service cells
pub record OtherCell (cell : Cell) : Type 0 where
  pub no_data_cell : 32 ≤ cell.0
  pub no_service_cell : 58 ≤ cell.0 → cell.0 ≤ 61 → ⊥
  pub in_block : cell.0 < block_cells
