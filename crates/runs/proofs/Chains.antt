-- The chain rule and what an event may write, at work on a card of four blocks: document 01's tray
-- run, sound and broken. And claims that ask less or say more, each false by a run that the checker
-- computes. Assumes nothing.
use Rattle.std.proofs.Common.{None, Some}
use mathlib.Core.Path.{◌≡◌, refl, ap}
use mathlib.Core.Logic.{◌≢◌}
use mathlib.Core.Bool.{true, false}
use mathlib.Core.List.{[], ◌∷◌}
use Prim.Native.Nat.{ℕ, ◌%◌, ◌<◌}
use native.Mathlib.Omega.{arith}
use lib.ListN.{length}
use Rattle.rules.proofs.Clash.{clash}
use Rattle.bus.specs.declared.word.Word.{Word}
use Rattle.bus.specs.Word.{word_of}
use Rattle.card.specs.declared.place.Block.{Block}
use Rattle.card.specs.declared.place.Cell.{Cell}
use Rattle.card.specs.Memory.{block_cells, the_block, the_cell, cell_at}
use Rattle.card.specs.TableWord.{block_of}
use Rattle.message.specs.declared.state.Stage.TheVariants.{Data}
use Rattle.message.specs.declared.state.OpenMessage.{OpenMessage}
use Rattle.terminal.specs.State.{Card}
use Rattle.terminal.specs.Event.{Event, word, read_queue, move_table, afresh}
use Rattle.terminal.specs.Machine.{step, run}
use Rattle.terminal_laws.specs.Closes.{
  OpenWithBlock,
  Closes,
  by_fault,
  by_superseding,
  by_sound_end,
}
use Rattle.terminal_laws.specs.Written.{
  table_address,
  OnBus,
  a_word,
  a_silence,
  a_queue_read,
  OtherCell,
}
use Rattle.terminal_laws.specs.Chain.{
  link_of,
  table_word_of,
  ChainCloses,
  OpensBy,
  Untouched,
  OpenIn,
}
use Rattle.terminal_laws.proofs.OtherCells.{action_may_write_nothing, idle_may_write_nothing}
use Rattle.terminal_laws.proofs.ChainLaws.{chain_moves_on, superseding_takes, next_opening_takes}
use Rattle.runs.proofs.Telling.{
  runs,
  unsound_a,
  put,
  receive,
  transmit,
  word1,
  word2,
  quiet,
}
use Rattle.runs.proofs.FourBlocks.{small, four_blocks, received, begun, filled}

-- the same command once more
abbrev again : Word
again = word_of 0x06 0x2862 0x78

-- ---- all that the chain rule asks, of the sound end, a fault, and a command that supersedes

at_the_sound_end : ChainCloses filled (received false 2) quiet
unfolding runs small
at_the_sound_end =
    record {
      with_block = record { is_open = refl; has_block = refl };
      closes = by_sound_end refl;
      table_stays = refl;
      in_memory = omega arith;
    }

at_a_fault : ChainCloses begun (received false 1) (unsound_a 0x2222 0x50)
unfolding runs small
at_a_fault =
    record {
      with_block = record { is_open = refl; has_block = refl };
      closes = by_fault refl;
      table_stays = refl;
      in_memory = omega arith;
    }

by_the_same_command : ChainCloses begun (received false 1) (word again)
unfolding runs small
by_the_same_command =
    record {
      with_block = record { is_open = refl; has_block = refl };
      closes = by_superseding refl;
      table_stays = refl;
      in_memory = omega arith;
    }

-- cell 67 gets 4003
the_table_cell_gets_the_link :
    cell_at (step quiet filled).card.ram (the_block 1) (the_cell 3) ≡ 0x4003
unfolding runs small
the_table_cell_gets_the_link = chain_moves_on filled (received false 2) quiet at_the_sound_end

-- after the fault too
a_fault_takes_the_chain_on :
    cell_at (step (unsound_a 0x2222 0x50) begun).card.ram (the_block 1) (the_cell 3) ≡ 0x4003
unfolding runs small
a_fault_takes_the_chain_on =
    chain_moves_on begun (received false 1) (unsound_a 0x2222 0x50) at_a_fault

-- what is asked of the command that opens
by_table_cell_3 : (old : Card) → (step (word again) old).opened ≡ afresh
    → old.core.table ≡ the_block 1 → (taken : ℕ) → OpensBy (received false taken) again old
unfolding runs
by_table_cell_3 old opens same_table taken =
    record {
      opens = λ opens_none. clash (cc);
      has_block = refl;
      same_cell = refl;
      same_table = same_table;
    }

-- 4003 names block 3
the_block_of_4003 : block_of 0x4003 ≡ the_block 3
the_block_of_4003 = refl

-- the next opening takes it, with a queue read between
the_next_opening_takes_block_3 :
    OpenIn 0x4003
    (step (word again) (run (read_queue ∷ []) (step quiet filled).card)).card.core.message
unfolding runs small Untouched
the_next_opening_takes_block_3 =
    let closed : Card = (step quiet filled).card in
    let read : Card = (step read_queue closed).card in
    next_opening_takes filled (received false 2) quiet (read_queue ∷ []) again at_the_sound_end
    (record {
      untouched = (
        action_may_write_nothing closed a_queue_read,
        (idle_may_write_nothing read refl a_word, tt),
      );
      opens_by = by_table_cell_3 read refl refl 2;
    })

-- so does the command that supersedes
a_superseding_command_takes_block_3 : OpenIn 0x4003 (step (word again) begun).card.core.message
unfolding runs small
a_superseding_command_takes_block_3 =
    superseding_takes begun (received false 1) again by_the_same_command
    (by_table_cell_3 begun refl refl 1)

-- ---- the chain rule with less asked, or more said

-- by what is asked, and by what the table cell then gets of the link
abbrev Chains : (Card → OpenMessage → Event → Type 0) → (ℕ → ℕ) → Type 0
Chains Asked stored =
    (old : Card) (message : OpenMessage) (event : Event) → Asked old message event
    → table_word_of message (step event old).card ≡ stored (link_of message old)

-- with all of it, this is the theorem
the_theorem : Chains ChainCloses (λ link. link)
the_theorem = chain_moves_on

-- the link is stored whole: 4003, not 3
the_low_ten_bits_alone_would_be_false : Chains ChainCloses (λ link. link % 1024) → ⊥
unfolding runs small
the_low_ten_bits_alone_would_be_false claim =
    let differs : ◌≡◌ {A = ℕ} 0x4003 3 =
    claim filled (received false 2) quiet at_the_sound_end in
    omega arith

-- whether or not the host has set the table block
record AnyTable (old : Card) (message : OpenMessage) (event : Event) : Type 0 where
  with_block : OpenWithBlock old message
  closes : Closes old message event
  in_memory : table_address message < length old.ram

a_table_that_was_set_would_differ : Chains AnyTable (λ link. link) → ⊥
unfolding runs small
a_table_that_was_set_would_differ claim =
    let differs : ◌≡◌ {A = ℕ} 0x4002 0x4003 =
    claim (four_blocks (receive ∷ move_table (the_block 1) ∷ word1 ∷ word2 ∷ [])) (received true 2)
    quiet
    (record {
      with_block = record { is_open = refl; has_block = refl };
      closes = by_sound_end refl;
      in_memory = omega arith;
    }) in
    omega arith

-- any event, whether or not it closes the message
record AnyEvent (old : Card) (message : OpenMessage) (event : Event) : Type 0 where
  with_block : OpenWithBlock old message
  table_stays : message.moved ≡ false
  in_memory : table_address message < length old.ram

an_event_that_does_not_close_would_differ : Chains AnyEvent (λ link. link) → ⊥
unfolding runs small
an_event_that_does_not_close_would_differ claim =
    let differs : ◌≡◌ {A = ℕ} 0x4002 0x4003 =
    claim begun (received false 1) word2
    (record {
      with_block = record { is_open = refl; has_block = refl };
      table_stays = refl;
      in_memory = omega arith;
    }) in
    omega arith

-- ---- what may be written, with less asked

-- the table cell is one that a closing writes, in another block
cells_elsewhere_would_differ :
    ((event : Event) (old : Card) (message : OpenMessage) (block : Block) (cell : Cell)
    → old.core.message ≡ Some message → OnBus event → block ≢ message.block
    → cell.0 < block_cells
    → cell_at (step event old).card.ram block cell ≡ cell_at old.ram block cell)
    → ⊥
unfolding runs small
cells_elsewhere_would_differ claim =
    let differs : ◌≡◌ {A = ℕ} 0x4003 0x4002 =
    claim quiet filled (received false 2) (the_block 1) (the_cell 3) refl a_silence
    (λ same. omega (arith, ap (λ (block : Block). block.0) same)) (omega arith) in
    omega arith

-- where the block is the table, the table cell is one of its other cells: subaddress 3 transmits
-- from block 1 by cell 35
other_cells_would_differ :
    ((event : Event) (old : Card) (message : OpenMessage) (cell : Cell)
    → old.core.message ≡ Some message → OnBus event → OtherCell cell
    → cell_at (step event old).card.ram message.block cell
    ≡ cell_at old.ram message.block cell)
    → ⊥
unfolding runs small
other_cells_would_differ claim =
    let sends : OpenMessage =
    record {
      command = 0x2C62;
      line = false;
      block = the_block 1;
      table = the_block 1;
      moved = false;
      busy = false;
      queued = false;
      opened = 0x28;
      taken = 0;
      second = None;
      stage = Data;
    } in
    let differs : ◌≡◌ {A = ℕ} 0x4003 0x0001 =
    claim quiet (small 256 (put 1 35 0x0001 ∷ put 1 63 0x4003 ∷ transmit ∷ [])) sends (the_cell 35)
    refl a_silence
    (record {
      no_data_cell = omega arith;
      no_service_cell = λ from to. omega arith;
      in_block = omega arith;
    }) in
    omega arith
