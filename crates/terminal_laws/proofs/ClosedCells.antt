-- What a closing makes of memory, for memory of any length: whatever closes the message, memory is
-- as `closed_ram` has it, `closed_ram_lem`, as long as it was, and the data cells of the message's
-- block are kept, `closing_keeps_data`, unless the table is that block. Assumes nothing.
use Rattle.std.proofs.Common.{Some}
use mathlib.Core.Path.{◌≡◌, ap, ◌∙◌}
use mathlib.Core.Bool.{true, false}
use mathlib.Core.List.{List}
use Prim.Native.Nat.{ℕ, ◌≤◌, ◌<◌}
use native.Mathlib.Omega.{arith}
use lib.ListN.{length}
use Rattle.card.specs.declared.place.Cell.{Cell}
use Rattle.card.specs.Memory.{block_cells, data_cells, word_address, cell_at}
use Rattle.card.proofs.MemoryLaws.{addresses_apart}
use Rattle.message.specs.declared.asked.Asked.{Asked}
use Rattle.message.specs.declared.state.OpenMessage.{OpenMessage}
use Rattle.message.specs.Asked.{asks}
use Rattle.message.proofs.AskedBounds.{cell_in_table}
use Rattle.terminal.specs.State.{Card}
use Rattle.terminal.specs.Opening.{opening}
use Rattle.terminal.specs.Closing.{closed_ram, closing, faulted, ended}
use Rattle.terminal.specs.Event.{Event, Outcome}
use Rattle.terminal.specs.WordStep.{word_done}
use Rattle.terminal.specs.SilenceStep.{silence_done}
use Rattle.terminal.specs.Machine.{step}
use Rattle.terminal_laws.specs.Closes.{
  Closes,
  by_fault,
  by_superseding,
  by_silence,
  by_sound_end,
}
use Rattle.terminal_laws.specs.Written.{TableElsewhere, WritesOnly}
use Rattle.terminal_laws.proofs.StepFrame.{word_step_lem, silence_step_lem, written_closing}

-- ---- whatever closes the message

pub record ClosedRam (old : Card) (message : OpenMessage) (new : List ℕ) : Type 0 where
  pub state : ℕ
  pub time : ℕ
  pub is : new ≡ closed_ram (asks message) state time message old.ram

module _ (old : Card) (message : OpenMessage) (is_open : old.core.message ≡ Some message) where
  closed_by : {new : List ℕ} (state time : ℕ)
      → new ≡ closed_ram (asks message) state time message old.ram
      → ClosedRam old message new
  closed_by state time is = record { state = state; time = time; is = is }

  pub closed_ram_lem : {event : Event} → Closes old message event
      → ClosedRam old message (step event old).card.ram
  unfolding word_done silence_done faulted ended closing opening
  closed_ram_lem (by_fault {heard = heard} judged) =
      closed_by _ heard.time
      (ap (λ (outcome : Outcome). outcome.card.ram)
      (word_step_lem old message is_open heard judged))
  closed_ram_lem (by_superseding {heard = heard} judged) =
      closed_by _ heard.time
      (ap (λ (outcome : Outcome). outcome.card.ram)
      (word_step_lem old message is_open heard judged))
  closed_ram_lem (by_silence {line = line} {time = time} judged) =
      closed_by _ time
      (ap (λ (outcome : Outcome). outcome.card.ram)
      (silence_step_lem old message is_open line time judged))
  closed_ram_lem (by_sound_end {line = line} {time = time} judged) =
      closed_by _ time
      (ap (λ (outcome : Outcome). outcome.card.ram)
      (silence_step_lem old message is_open line time judged))

-- ---- what it keeps

-- where a closing may write
data InClosing (asked : Asked) (message : OpenMessage) (address : ℕ) : Type 0 where
  in_service : {cell : Cell} → 58 ≤ cell.0 → cell.0 ≤ 61
      → address ≡ word_address message.block cell → InClosing asked message address
  in_table : asked.block ≡ true → message.moved ≡ false
      → address ≡ word_address message.table asked.cell → InClosing asked message address

module _ (asked : Asked) (state time : ℕ) (message : OpenMessage) (ram : List ℕ) where
  closed_writes : WritesOnly (InClosing asked message) ram (closed_ram asked state time message ram)
  closed_writes =
      written_closing asked state time message ram
      (λ has cell address from to is. in_service from to is)
      (λ has stays address is. in_table has stays is)

  pub closed_length : length (closed_ram asked state time message ram) ≡ length ram
  closed_length = closed_writes.same_length

  pub closed_data_cell : asked.cell.0 < block_cells → TableElsewhere asked message
      → (cell : Cell) → cell.0 < data_cells
      → cell_at (closed_ram asked state time message ram) message.block cell
      ≡ cell_at ram message.block cell
  unfolding cell_at
  closed_data_cell in_table_block elsewhere cell low =
      closed_writes.same_else (word_address message.block cell) kept
    where
      kept : InClosing asked message (word_address message.block cell) → ⊥
      kept (in_service from to is) = omega arith
      kept (in_table has stays is) =
          addresses_apart in_table_block (omega arith) (elsewhere has stays) is

-- an event that closes the message leaves the data cells of its block
pub closing_keeps_data : (old : Card) (message : OpenMessage) (event : Event)
    → old.core.message ≡ Some message → Closes old message event
    → TableElsewhere (asks message) message → (cell : Cell) → cell.0 < data_cells
    → cell_at (step event old).card.ram message.block cell
    ≡ cell_at old.ram message.block cell
closing_keeps_data old message event is_open closes elsewhere cell low =
    let closed = closed_ram_lem old message is_open closes in
    ap (λ (ram : List ℕ). cell_at ram message.block cell) closed.is
    ∙ closed_data_cell (asks message) closed.state closed.time message old.ram
    (cell_in_table message.command) elsewhere cell low
