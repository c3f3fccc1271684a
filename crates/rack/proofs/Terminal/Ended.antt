-- A message in its data whose words come, and then the silence: what that leaves. One law for every
-- command, for the end of a receive, a transmit, a transfer and a mode command. Assumes nothing.
use Rattle.std.proofs.Common.{None}
use mathlib.Core.Path.{◌≡◌, refl, ap, sym, subst, ◌∙◌}
use mathlib.Core.Bool.{true, false, cond}
use mathlib.Core.List.{List}
use Prim.Native.Nat.{ℕ, ◌≤◌, ◌<◌}
use native.Mathlib.Nat.{zero-add}
use native.Mathlib.Omega.{arith}
use lib.ListN.{length, get_or}
use Rattle.bus.specs.Command.{is_broadcast}
use Rattle.card.specs.Memory.{block_cells, card_blocks, the_cell, word_address, cell_at, with_cells}
use Rattle.card.specs.Sent.{sent_part}
use Rattle.card.proofs.CellLaws.{cell_of_with_cells}
use Rattle.card.proofs.Frame.{cells_keep}
use Rattle.message.specs.declared.judge.SilenceAct.TheVariants.{End}
use Rattle.message.specs.declared.state.OpenMessage.{OpenMessage}
use Rattle.message.specs.Message.{further}
use Rattle.message.specs.Asked.{asks}
use Rattle.message.proofs.AskedBounds.{takes_at_most, cell_in_table}
use Rattle.terminal.specs.State.{Card, with_message, with_switches}
use Rattle.terminal.specs.Closing.{closing, ended}
use Rattle.terminal.specs.Event.{silence, Outcome}
use Rattle.terminal.specs.SilenceStep.{silence_done}
use Rattle.terminal.specs.Machine.{step}
use Rattle.terminal_laws.specs.Written.{TableElsewhere, WritesOnly}
use Rattle.terminal_laws.proofs.StepFrame.{silence_step_lem, written_closing}
use Rattle.terminal_laws.proofs.ClosedCells.{closed_data_cell}
use Rattle.rack.specs.Segment.{segment, Nothing, Said, data_words}
use Rattle.rack.specs.Hearing.{hears, said_in, said_after}
use Rattle.rack.specs.Changed.{MayChange, a_data_cell, a_service_cell, the_link}
use Rattle.rack.proofs.Terminal.Taken.{
  AtItsData,
  filled_message,
  filled,
  words_are_taken,
  filled_is_open,
  silence_is_end,
}
use Rattle.rack.proofs.Terminal.Said.{broadcast_is_silent, reply_is_said}

-- the message of the card `old` has ended, with `words` taken
pub record Ended (message : OpenMessage) (words : List ℕ) (old : Card) (outcome : Outcome)
    : Type 0 where
  pub idle : outcome.card.core.message ≡ None
  pub station : outcome.card.core.station ≡ old.core.station
  pub status : outcome.card.core.status ≡ old.core.status
  pub stored : (cell : ℕ) → cell < length words
      → cell_at outcome.card.ram message.block (the_cell cell) ≡ get_or words cell 0
  pub kept : WritesOnly (MayChange (asks message) message.block message.table) old.ram
      outcome.card.ram
  pub silent : is_broadcast message.command ≡ true → said_after outcome ≡ Nothing
  pub said : is_broadcast message.command ≡ false
      → cond message.line old.core.shut.b old.core.shut.a ≡ false
      → (asks message).last ≡ false
      → said_after outcome
      ≡ Said old.core.station
      (segment old.core.status None
      (sent_part card_blocks outcome.card.ram message.block (asks message).sends))

module _ (message : OpenMessage) (old : Card) (at_data : AtItsData message old) (words : List ℕ)
    (full : length words ≡ (asks message).takes) (elsewhere : TableElsewhere (asks message) message)
    (in_memory : word_address message.block (the_cell block_cells) ≤ length old.ram) where
  abbrev last : OpenMessage
  last = filled_message words message

  abbrev at_end : ℕ → Outcome
  at_end time = silence_done End (asks message) last time (filled words message old)

  stored_at_end : (time cell : ℕ) → cell < length words
      → cell_at (at_end time).card.ram message.block (the_cell cell) ≡ get_or words cell 0
  unfolding silence_done ended closing further
  stored_at_end time cell below =
      let few = takes_at_most message.command in
      closed_data_cell (asks message) _ time last (with_cells old.ram message.block 0 words)
      (cell_in_table message.command) elsewhere (the_cell cell) (omega (arith, full, few, below))
      ∙ ap (λ (any : ℕ). cell_at (with_cells old.ram message.block 0 words) message.block
      (the_cell any)) (sym (zero-add cell))
      ∙ cell_of_with_cells words old.ram message.block 0 cell below
      (omega (arith, full, few)) (omega (arith, full, few, in_memory))

  -- words into the first cells, then the closing
  kept_at_end : (time : ℕ)
      → WritesOnly (MayChange (asks message) message.block message.table) old.ram
      (at_end time).card.ram
  unfolding silence_done ended closing further
  kept_at_end time =
      let cells =
      cells_keep {Written = MayChange (asks message) message.block message.table} words
      message.block 0
      (λ cell from to. a_data_cell (omega (arith, full, to)) refl) in
      let closed =
      written_closing {Written = MayChange (asks message) message.block message.table}
      (asks message) _ time last (with_cells old.ram message.block 0 words)
      (λ has cell address from to is. a_service_cell has from to is)
      (λ has stays address is. the_link has is) in
      record {
        same_length = closed.same_length ∙ cells.same_length old.ram;
        same_else = λ address else.
            closed.same_else address else ∙ cells.same_else old.ram address else;
      }

  ended_at_end : (time : ℕ) → Ended message words old (at_end time)
  unfolding silence_done ended closing with_message with_switches further said_in
  ended_at_end time =
      record {
        idle = refl;
        station = refl;
        status = refl;
        stored = stored_at_end time;
        kept = kept_at_end time;
        silent = λ to_all_lem.
            broadcast_is_silent (asks message) (filled words message old).core last
            old.core.station _ to_all_lem;
        said = λ to_one not_shut not_last.
            reply_is_said (asks message) (filled words message old).core last
            old.core.station _ to_one not_shut at_data.not_busy not_last;
      }

  pub words_then_silence : (time : ℕ → ℕ) (place silence_time : ℕ)
      → Ended message words old
      (step (silence message.line silence_time)
      (hears (data_words message.line time place words) old))
  unfolding further
  words_then_silence time place silence_time =
      let ends : step (silence message.line silence_time)
      (hears (data_words message.line time place words) old)
      ≡ at_end silence_time =
      ap (λ (new : Card). step (silence message.line silence_time) new)
      (words_are_taken message old at_data words full time place)
      ∙ silence_step_lem (filled words message old) last (filled_is_open words message old)
      message.line silence_time (silence_is_end words message full) in
      subst (λ (outcome : Outcome). Ended message words old outcome) (sym ends)
      (ended_at_end silence_time)
