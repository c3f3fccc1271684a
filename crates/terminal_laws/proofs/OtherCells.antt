-- What words and silences never write, in document 01's words: `other_cells_kept`, the other cells
-- of the open message's block, and `cells_elsewhere_kept`, every cell of every other block; save
-- the table cell. With nothing open they write nothing, nor do the host's actions but the write of
-- words. For every card, fit or not, over memory of any length. Assumes nothing.
use Rattle.std.proofs.Common.{None, Some}
use mathlib.Core.Path.{◌≡◌, subst}
use mathlib.Core.Logic.{◌≢◌}
use Prim.Native.Nat.{ℕ, ◌≤◌, ◌<◌}
use native.Mathlib.Omega.{arith}
use Rattle.rules.proofs.Clash.{clash}
use Rattle.card.specs.declared.place.Block.{Block}
use Rattle.card.specs.declared.place.Cell.{Cell}
use Rattle.card.specs.Memory.{block_cells, word_address, cell_at}
use Rattle.card.proofs.MemoryLaws.{same_block}
use Rattle.message.specs.declared.state.OpenMessage.{OpenMessage}
use Rattle.terminal.specs.State.{Card}
use Rattle.terminal.specs.Event.{Event}
use Rattle.terminal.specs.Machine.{step}
use Rattle.terminal_laws.specs.Closes.{OpenWithBlock, Closes}
use Rattle.terminal_laws.specs.Written.{
  table_address,
  MayWrite,
  data_cell,
  service_cell,
  table_cell,
  host_cell,
  OnBus,
  a_word,
  a_silence,
  OtherAction,
  a_queue_read,
  a_table_move,
  a_flags_write,
  OtherCell,
}
use Rattle.terminal_laws.proofs.StepFrame.{step_writes_only}

-- ---- what writes nothing

-- a queue read, a setting of the table block, of the flags: they close no message
action_closes_nothing : {event : Event} {message : OpenMessage} (old : Card)
    → OtherAction event → Closes old message event → ⊥
action_closes_nothing old a_queue_read = elim [ ]
action_closes_nothing old a_table_move = elim [ ]
action_closes_nothing old a_flags_write = elim [ ]

pub action_may_write_nothing : {event : Event} {address : ℕ} (old : Card)
    → OtherAction event → MayWrite old event address → ⊥
action_may_write_nothing old action (service_cell with_block closes from to is) =
    action_closes_nothing old action closes
action_may_write_nothing old action (table_cell with_block closes stays is) =
    action_closes_nothing old action closes
action_may_write_nothing old action (data_cell with_block stores is) = elim action [ ]
action_may_write_nothing old action (host_cell from below) = elim action [ ]

not_idle : {message : OpenMessage} (old : Card) → old.core.message ≡ None
    → OpenWithBlock old message → ⊥
not_idle old idle with_block =
    let is_open = with_block.is_open in clash (cc)

-- words and silences where nothing is open
pub idle_may_write_nothing : {event : Event} {address : ℕ} (old : Card)
    → old.core.message ≡ None → OnBus event → MayWrite old event address → ⊥
idle_may_write_nothing old idle a_word (data_cell with_block stores is) =
    not_idle old idle with_block
idle_may_write_nothing old idle a_word (service_cell with_block closes from to is) =
    not_idle old idle with_block
idle_may_write_nothing old idle a_word (table_cell with_block closes stays is) =
    not_idle old idle with_block
idle_may_write_nothing old idle a_silence (service_cell with_block closes from to is) =
    not_idle old idle with_block
idle_may_write_nothing old idle a_silence (table_cell with_block closes stays is) =
    not_idle old idle with_block

-- ---- with a message open

-- what words and silences may write, of the message that is open
data Place (message : OpenMessage) (address : ℕ) : Type 0 where
  in_data_lem : {cell : Cell} → cell.0 < 32 → address ≡ word_address message.block cell
      → Place message address
  in_service : {cell : Cell} → 58 ≤ cell.0 → cell.0 ≤ 61
      → address ≡ word_address message.block cell → Place message address
  in_table : address ≡ table_address message → Place message address

module _ (old : Card) (message : OpenMessage) (is_open : old.core.message ≡ Some message) where
  -- the message that is open is that one
  same_place : {other : OpenMessage} {address : ℕ} → OpenWithBlock old other
      → Place other address → Place message address
  same_place {other} {address} with_block place =
      let is_open' = with_block.is_open in
      let same : other ≡ message = cc in
      subst (λ (there : OpenMessage). Place there address) same place

  place_of : {event : Event} {address : ℕ} → OnBus event → MayWrite old event address
      → Place message address
  place_of a_word (data_cell with_block stores is) =
      same_place with_block (in_data_lem stores.data_cell is)
  place_of a_word (service_cell with_block closes from to is) =
      same_place with_block (in_service from to is)
  place_of a_word (table_cell with_block closes stays is) =
      same_place with_block (in_table is)
  place_of a_silence (service_cell with_block closes from to is) =
      same_place with_block (in_service from to is)
  place_of a_silence (table_cell with_block closes stays is) =
      same_place with_block (in_table is)

  cell_kept : {event : Event} → OnBus event → (block : Block) (cell : Cell)
      → (Place message (word_address block cell) → ⊥)
      → cell_at (step event old).card.ram block cell ≡ cell_at old.ram block cell
  unfolding cell_at
  cell_kept {event} on_bus block cell no_place =
      (step_writes_only event old).same_else (word_address block cell)
      (λ may. no_place (place_of on_bus may))

-- the terminal never writes other cells of a message's block, save the table cell
pub other_cells_kept : {event : Event} (old : Card) (message : OpenMessage) (cell : Cell)
    → old.core.message ≡ Some message → OnBus event
    → OtherCell cell → word_address message.block cell ≢ table_address message
    → cell_at (step event old).card.ram message.block cell
    ≡ cell_at old.ram message.block cell
other_cells_kept old message cell is_open on_bus other no_table =
    cell_kept old message is_open on_bus message.block cell go
  where
    go : Place message (word_address message.block cell) → ⊥
    go (in_data_lem low is) = omega (arith, other.no_data_cell)
    go (in_service from to is) = other.no_service_cell (omega arith) (omega arith)
    go (in_table is) = no_table is

-- nor any cell of another block
pub cells_elsewhere_kept : {event : Event} (old : Card) (message : OpenMessage) (block : Block)
    (cell : Cell)
    → old.core.message ≡ Some message → OnBus event
    → block ≢ message.block → cell.0 < block_cells → word_address block cell ≢ table_address message
    → cell_at (step event old).card.ram block cell ≡ cell_at old.ram block cell
cells_elsewhere_kept old message block cell is_open on_bus elsewhere inside no_table =
    cell_kept old message is_open on_bus block cell go
  where
    go : Place message (word_address block cell) → ⊥
    go (in_data_lem low is) = elsewhere (same_block (omega arith))
    go (in_service from to is) = elsewhere (same_block (omega arith))
    go (in_table is) = no_table is
