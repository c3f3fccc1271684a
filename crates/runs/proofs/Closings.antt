-- A closing keeps the data cells of its message's block, at work on document 01's tray run. And the
-- claim with less asked, each time false by a run that the checker computes. Assumes nothing.
use Rattle.std.proofs.Common.{Some}
use mathlib.Core.Path.{◌≡◌, refl, ap}
use mathlib.Core.Bool.{false}
use mathlib.Core.List.{[], ◌∷◌}
use Prim.Native.Nat.{ℕ, ◌<◌}
use native.Mathlib.Omega.{arith}
use Rattle.card.specs.declared.place.Block.{Block}
use Rattle.card.specs.declared.place.Cell.{Cell}
use Rattle.card.specs.Memory.{data_cells, the_block, the_cell, cell_at}
use Rattle.message.specs.declared.state.OpenMessage.{OpenMessage}
use Rattle.message.specs.Asked.{asks}
use Rattle.terminal.specs.State.{Card}
use Rattle.terminal.specs.Event.{Event}
use Rattle.terminal.specs.Machine.{step}
use Rattle.terminal_laws.specs.Closes.{Closes, by_sound_end}
use Rattle.terminal_laws.specs.Written.{TableElsewhere}
use Rattle.terminal_laws.proofs.ClosedCells.{closing_keeps_data}
use Rattle.runs.proofs.Telling.{runs, put, receive, word1, word2, quiet}
use Rattle.runs.proofs.FourBlocks.{small, received_in, received, begun, filled}

in_block_2 : (taken : ℕ) → TableElsewhere (asks (received false taken)) (received false taken)
in_block_2 taken has stays same = omega (arith, ap (λ (block : Block). block.0) same)

-- the second word stays
the_data_stays : cell_at (step quiet filled).card.ram (the_block 2) (the_cell 1) ≡ 0x2222
unfolding runs small
the_data_stays =
    closing_keeps_data filled (received false 2) quiet refl (by_sound_end refl)
    (in_block_2 2) (the_cell 1) (omega arith)

-- ---- with less asked

-- by what is asked
abbrev Keeps : (Card → OpenMessage → Event → Cell → Type 0) → Type 0
Keeps Asked =
    (old : Card) (message : OpenMessage) (event : Event) (cell : Cell)
    → old.core.message ≡ Some message → Asked old message event cell
    → cell_at (step event old).card.ram message.block cell
    ≡ cell_at old.ram message.block cell

-- whether or not the block is the table
record AnyBlock (old : Card) (message : OpenMessage) (event : Event) (cell : Cell) : Type 0 where
  closes : Closes old message event
  data_cell : cell.0 < data_cells

-- block 1 takes the words: its link goes into its own cell 3
a_block_that_is_the_table_would_differ : Keeps AnyBlock → ⊥
unfolding runs small
a_block_that_is_the_table_would_differ claim =
    let differs : ◌≡◌ {A = ℕ} 0x4003 0x4001 =
    claim (small 256 (put 1 3 0x4001 ∷ put 1 63 0x4003 ∷ receive ∷ word1 ∷ word2 ∷ []))
    (received_in 1 false 2) quiet (the_cell 3) refl
    (record { closes = by_sound_end refl; data_cell = omega arith }) in
    omega arith

-- whether or not the event closes the message
record AnyEvent (old : Card) (message : OpenMessage) (event : Event) (cell : Cell) : Type 0 where
  elsewhere : TableElsewhere (asks message) message
  data_cell : cell.0 < data_cells

-- the second word is stored
an_event_that_does_not_close_would_differ : Keeps AnyEvent → ⊥
unfolding runs small
an_event_that_does_not_close_would_differ claim =
    let differs : ◌≡◌ {A = ℕ} 0x2222 0 =
    claim begun (received false 1) word2 (the_cell 1) refl
    (record { elsewhere = in_block_2 1; data_cell = omega arith }) in
    omega arith

-- whatever cell of the block
record AnyCell (old : Card) (message : OpenMessage) (event : Event) (cell : Cell) : Type 0 where
  closes : Closes old message event
  elsewhere : TableElsewhere (asks message) message

-- cell 58 gets the count of words
a_service_cell_would_differ : Keeps AnyCell → ⊥
unfolding runs small
a_service_cell_would_differ claim =
    let differs : ◌≡◌ {A = ℕ} 2 0 =
    claim filled (received false 2) quiet (the_cell 58) refl
    (record { closes = by_sound_end refl; elsewhere = in_block_2 2 }) in
    omega arith
