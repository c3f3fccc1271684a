-- The bounds of the table `specs/Asked.antt`, kind by kind: no message takes or sends more than 32
-- words, whatever takes words has a block, a chain has a cell of the table, and one that sends has
-- a cell from 32 on. Assumes nothing.
use mathlib.Core.Path.{◌≡◌, refl}
use mathlib.Core.Bool.{Bool, true, false, cond}
use Prim.Native.Nat.{ℕ, ◌≤◌, ◌<◌}
use native.Mathlib.Omega.{arith}
use lib.Dec.{eqb}
use Rattle.bus.specs.declared.kind.Kind.{Kind}
use Rattle.bus.specs.declared.kind.Kind.TheVariants.{
  Receive,
  Transmit,
  ModeStatus,
  ModeLast,
  ModeSwitch,
  ModeSend,
  ModeTake,
  ModeReply,
  Illegal,
}
use Rattle.bus.specs.Command.{mode_code_of}
use Rattle.bus.specs.Kind.{kind_of}
use Rattle.bus.proofs.CommandLaws.{words_at_most}
use Rattle.card.specs.Memory.{block_cells}
use Rattle.message.specs.Asked.{asked_by, asked_of}

-- ---- words taken

kind_takes : (kind : Kind) (command : ℕ) → (asked_by kind command).takes ≤ 32
unfolding asked_by
kind_takes Receive command = words_at_most command
kind_takes Transmit command = omega arith
kind_takes ModeStatus command = omega arith
kind_takes ModeLast command = omega arith
kind_takes ModeSwitch command = omega arith
kind_takes ModeSend command = omega arith
kind_takes ModeTake command = omega arith
kind_takes ModeReply command = omega arith
kind_takes Illegal command = omega arith

pub takes_at_most : (command : ℕ) → (asked_of command).takes ≤ 32
takes_at_most command = kind_takes (kind_of command) command

kind_with_block : (kind : Kind) (command taken : ℕ) → taken < (asked_by kind command).takes
    → (asked_by kind command).block ≡ true
unfolding asked_by
kind_with_block Receive command taken wanted = refl
kind_with_block Transmit command taken wanted = refl
kind_with_block ModeStatus command taken wanted = absurd (omega arith)
kind_with_block ModeLast command taken wanted = absurd (omega arith)
kind_with_block ModeSwitch command taken wanted = absurd (omega arith)
kind_with_block ModeSend command taken wanted = refl
kind_with_block ModeTake command taken wanted = refl
kind_with_block ModeReply command taken wanted = refl
kind_with_block Illegal command taken wanted = absurd (omega arith)

-- what takes words has a block
pub takes_with_block : (command taken : ℕ) → taken < (asked_of command).takes
    → (asked_of command).block ≡ true
takes_with_block command taken wanted = kind_with_block (kind_of command) command taken wanted

-- ---- words sent

kind_sends : (kind : Kind) (command : ℕ) → (asked_by kind command).sends ≤ 32
unfolding asked_by
kind_sends Receive command = omega arith
kind_sends Transmit command = words_at_most command
kind_sends ModeStatus command = omega arith
kind_sends ModeLast command = omega arith
kind_sends ModeSwitch command = omega arith
kind_sends ModeSend command = omega arith
kind_sends ModeTake command = omega arith
kind_sends ModeReply command = omega arith
kind_sends Illegal command = omega arith

pub sends_at_most : (command : ℕ) → (asked_of command).sends ≤ 32
sends_at_most command = kind_sends (kind_of command) command

kind_by_high_cell : (kind : Kind) (command : ℕ) → ((asked_by kind command).sends ≡ 0 → ⊥)
    → 32 ≤ (asked_by kind command).cell.0
unfolding asked_by
kind_by_high_cell Receive command sends = absurd (sends refl)
kind_by_high_cell Transmit command sends = omega arith
kind_by_high_cell ModeStatus command sends = absurd (sends refl)
kind_by_high_cell ModeLast command sends = absurd (sends refl)
kind_by_high_cell ModeSwitch command sends = absurd (sends refl)
kind_by_high_cell ModeSend command sends = go (eqb (mode_code_of command) 16)
  where
    go : (code : Bool) → 32 ≤ cond code 32 63
    go true = omega arith
    go false = omega arith
kind_by_high_cell ModeTake command sends = absurd (sends refl)
kind_by_high_cell ModeReply command sends = absurd (sends refl)
kind_by_high_cell Illegal command sends = absurd (sends refl)

-- what sends words of a block goes by a table cell from 32 on
pub sends_by_high_cell : (command : ℕ) → ((asked_of command).sends ≡ 0 → ⊥)
    → 32 ≤ (asked_of command).cell.0
sends_by_high_cell command sends = kind_by_high_cell (kind_of command) command sends

-- ---- the table cell

kind_in_table : (kind : Kind) (command : ℕ) → (asked_by kind command).cell.0 < block_cells
unfolding asked_by
kind_in_table Receive command = omega arith
kind_in_table Transmit command = omega arith
kind_in_table ModeStatus command = omega arith
kind_in_table ModeLast command = omega arith
kind_in_table ModeSwitch command = omega arith
kind_in_table ModeSend command = go (eqb (mode_code_of command) 16)
  where
    go : (code : Bool) → cond code 32 63 < block_cells
    go true = omega arith
    go false = omega arith
kind_in_table ModeTake command = omega arith
kind_in_table ModeReply command = omega arith
kind_in_table Illegal command = omega arith

-- every command has its chain's word in a cell of the table
pub cell_in_table : (command : ℕ) → (asked_of command).cell.0 < block_cells
cell_in_table command = kind_in_table (kind_of command) command
