-- The chain rule of the terminal, for memory of any length:
--     chain-moves-on        a closing puts the link of its block into the opening's table cell
--     moved-chain-stays     .. unless the host has set the table block since
--     superseding-takes     .. and where a command supersedes, its message takes the block named
--     next-opening-takes    .. and so does the next opening by that cell, whatever comes between
-- Assumes nothing.
use Rattle.std.proofs.Common.{None, Option, Some}
use mathlib.Core.Path.{◌≡◌, refl, ap, subst, ◌∙◌}
use mathlib.Core.Logic.{◌≢◌}
use mathlib.Core.Bool.{Bool, true, false, cond}
use mathlib.Core.List.{List, [], ◌∷◌, ◌++◌}
use Prim.Native.Nat.{ℕ, ◌≤◌, ◌<◌}
use native.Mathlib.Omega.{arith}
use lib.ListN.{length, get_or}
use Rattle.bus.specs.declared.word.Word.{Word}
use Rattle.card.specs.declared.place.Block.{Block}
use Rattle.card.specs.declared.place.Cell.{Cell}
use Rattle.card.specs.Memory.{block_cells, the_cell, word_address, cell_at, with_service}
use Rattle.card.specs.Time.{ticks_of}
use Rattle.card.proofs.Frame.{service_keeps, link_moves}
use Rattle.message.specs.declared.asked.Asked.{Asked}
use Rattle.message.specs.declared.judge.WordAct.{WordAct}
use Rattle.message.specs.declared.judge.WordAct.TheVariants.{
  Ignore,
  Store,
  Check,
  TakeSecond,
  TakeStatus,
  Fault,
  Supersede,
  Drop,
}
use Rattle.message.specs.declared.state.OpenMessage.{OpenMessage}
use Rattle.message.specs.Asked.{asked_of, asks}
use Rattle.message.specs.Words.{own_command}
use Rattle.message.proofs.AskedBounds.{cell_in_table}
use Rattle.terminal.specs.State.{Card, with_status, with_message}
use Rattle.terminal.specs.Opening.{opened_message, opened_core, opened_as, opening}
use Rattle.terminal.specs.Closing.{closed_ram, closing, faulted}
use Rattle.terminal.specs.Event.{Event, word, none, opens, quietly}
use Rattle.terminal.specs.WordStep.{word_done, word_met, word_step}
use Rattle.terminal.specs.Machine.{step, run}
use Rattle.terminal_laws.specs.Closes.{OpenWithBlock, Closes}
use Rattle.terminal_laws.specs.Written.{table_address}
use Rattle.terminal_laws.specs.Chain.{
  link_of,
  table_word_of,
  ChainCloses,
  OpensBy,
  Untouched,
  OpensNext,
  OpenIn,
  open_in,
}
use Rattle.terminal_laws.proofs.StepFrame.{step_writes_only}
use Rattle.terminal_laws.proofs.ClosedCells.{closed_ram_lem}

-- ---- a closing

module _ (asked : Asked) (state time : ℕ) (message : OpenMessage) (ram : List ℕ)
    (has : asked.block ≡ true) where
  -- cells 58 to 61, then cell 63 into the table cell: the link is the one that stood there before
  link_after_closing : message.moved ≡ false → asked.cell.0 < block_cells
      → word_address message.table asked.cell < length ram
      → cell_at (closed_ram asked state time message ram) message.table asked.cell
      ≡ cell_at ram message.block (the_cell 63)
  unfolding closed_ram cell_at
  link_after_closing stays inside in_memory =
      let ticks = ticks_of message.opened time in
      let served = with_service ram message.block state time ticks in
      let keeps = service_keeps message.block state time ticks in
      rw (has, stays)
      (link_moves served message.block message.table asked.cell inside
      (omega (arith, keeps.same_length ram))
      ∙ keeps.same_else ram (word_address message.block (the_cell 63)) (λ written. omega arith))

  -- cells 58 to 61 alone
  table_word_after_a_move : message.moved ≡ true
      → ((cell : Cell) → 58 ≤ cell.0 → cell.0 ≤ 61
      → word_address message.table asked.cell ≢ word_address message.block cell)
      → cell_at (closed_ram asked state time message ram) message.table asked.cell
      ≡ cell_at ram message.table asked.cell
  unfolding closed_ram cell_at
  table_word_after_a_move moved apart =
      rw (has, moved)
      ((service_keeps message.block state time (ticks_of message.opened time)).same_else ram
      (word_address message.table asked.cell)
      (λ written. apart written.cell written.from written.to written.is))

-- the closing puts cell 63 of its block, whole, into the opening's table cell ..
pub chain_moves_on : (old : Card) (message : OpenMessage) (event : Event)
    → ChainCloses old message event
    → table_word_of message (step event old).card ≡ link_of message old
chain_moves_on old message event asked =
    let closed = closed_ram_lem old message asked.with_block.is_open asked.closes in
    ap
    (λ (ram : List ℕ). cell_at ram message.table (asks message).cell)
    closed.is
    ∙ link_after_closing (asks message) closed.state closed.time message
    old.ram asked.with_block.has_block asked.table_stays
    (cell_in_table message.command) asked.in_memory

-- .. unless the host has set the table block since: the table cell stays as it was, where it is
-- none of the cells 58 to 61 of the message's block
pub moved_chain_stays : (old : Card) (message : OpenMessage) (event : Event)
    → OpenWithBlock old message → Closes old message event → message.moved ≡ true
    → ((cell : Cell) → 58 ≤ cell.0 → cell.0 ≤ 61
    → table_address message ≢ word_address message.block cell)
    → table_word_of message (step event old).card ≡ table_word_of message old
moved_chain_stays old message event with_block closes moved apart =
    let closed = closed_ram_lem old message with_block.is_open closes in
    ap
    (λ (ram : List ℕ). cell_at ram message.table (asks message).cell)
    closed.is
    ∙ table_word_after_a_move (asks message) closed.state closed.time message
    old.ram with_block.has_block moved apart

-- ---- an opening

-- a fault moves no table
faulted_table : (asked : Asked) (code time : ℕ) (message : OpenMessage) (old : Card)
    → (faulted asked code time message old).core.table ≡ old.core.table
unfolding faulted closing with_message with_status
faulted_table asked code time message old = refl

module _ (heard : Word) (has : (asked_of heard.value).block ≡ true) where
  -- it takes the block that the table cell names, and leaves memory as it is
  abbrev Takes : Card → Block → Type 0
  Takes new table =
      OpenIn (cell_at new.ram table (asked_of heard.value).cell) new.core.message

  opening_takes : (old : Card) → Takes (opening heard old) old.core.table
  unfolding opening opened_core opened_message with_message
  opening_takes old =
      open_in {message = opened_as heard old.core old.ram} (rw has)

  word_done_takes : (act : WordAct) (asked : Asked) (message : OpenMessage) (old : Card)
      → (word_done act asked message heard old).opened ≢ none
      → Takes (word_done act asked message heard old).card old.core.table
  unfolding word_done
  word_done_takes Ignore asked message old opened = absurd (opened refl)
  word_done_takes (Store next) asked message old opened = absurd (opened refl)
  word_done_takes (Check next) asked message old opened = absurd (opened refl)
  word_done_takes (TakeSecond value) asked message old opened = absurd (opened refl)
  word_done_takes TakeStatus asked message old opened = absurd (opened refl)
  word_done_takes (Fault code) asked message old opened = absurd (opened refl)
  word_done_takes Supersede asked message old opened =
      subst (Takes (opening heard (faulted asked 7 heard.time message old)))
      (faulted_table asked 7 heard.time message old)
      (opening_takes (faulted asked 7 heard.time message old))
  word_done_takes Drop asked message old opened = opening_takes old

  idle_takes : (own : Bool) (old : Card)
      → (cond own (opens heard old) (quietly old)).opened ≢ none
      → Takes (cond own (opens heard old) (quietly old)).card old.core.table
  idle_takes true old opened = opening_takes old
  idle_takes false old opened = absurd (opened refl)

  word_met_takes : (message : Option OpenMessage) (old : Card)
      → (word_met message heard old).opened ≢ none
      → Takes (word_met message heard old).card old.core.table
  word_met_takes None old opened =
      idle_takes (own_command old.core.station old.core.flags heard) old opened
  word_met_takes (Some message) old opened =
      word_done_takes _ (asks message) message old opened

-- by the table cell of a message, as memory has it after the step
opening_by : (message : OpenMessage) (heard : Word) (old : Card) → OpensBy message heard old
    → OpenIn (table_word_of message (step (word heard) old).card)
    (step (word heard) old).card.core.message
unfolding step word_step
opening_by message heard old by =
    rw (← by.same_cell, ← by.same_table)
    (word_met_takes heard by.has_block old.core.message old by.opens)

-- ---- the two together

-- a command that supersedes and goes by the same cell takes the block that the link names
pub superseding_takes : (old : Card) (message : OpenMessage) (heard : Word)
    → ChainCloses old message (word heard) → OpensBy message heard old
    → OpenIn (link_of message old) (step (word heard) old).card.core.message
superseding_takes old message heard closing by =
    subst
    (λ (table_word : ℕ). OpenIn table_word (step (word heard) old).card.core.message)
    (chain_moves_on old message (word heard) closing)
    (opening_by message heard old by)

-- events that may not write a cell leave it as it was
untouched_stays : (address : ℕ) (between : List Event) (heard : Word) (old : Card)
    → Untouched address (between ++ word heard ∷ []) old
    → get_or (step (word heard) (run between old)).card.ram address 0 ≡ get_or old.ram address 0
unfolding Untouched run
untouched_stays address [] heard old untouched =
    (step_writes_only (word heard) old).same_else address untouched.0
untouched_stays address (event ∷ between) heard old untouched =
    untouched_stays address between heard (step event old).card untouched.1
    ∙ (step_writes_only event old).same_else address untouched.0

-- so does the next command that opens by that cell
pub next_opening_takes : (old : Card) (message : OpenMessage) (event : Event)
    (between : List Event) (heard : Word)
    → ChainCloses old message event → OpensNext message between heard (step event old).card
    → OpenIn (link_of message old)
    (step (word heard) (run between (step event old).card)).card.core.message
unfolding cell_at
next_opening_takes old message event between heard closing next =
    let left = run between (step event old).card in
    subst
    (λ (table_word : ℕ). OpenIn table_word (step (word heard) left).card.core.message)
    (untouched_stays (table_address message) between heard (step event old).card next.untouched
    ∙ chain_moves_on old message event closing)
    (opening_by message heard left next.opens_by)
