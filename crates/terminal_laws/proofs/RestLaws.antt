-- A card that is whole and fit stays so, `whole_and_fit_stays`, and at rest while nothing opens,
-- `rest_stays`; the blocks of its messages lie in its memory. Assumes nothing.
use Rattle.std.proofs.Common.{None, Option, Some}
use mathlib.Core.Path.{◌≡◌, ◌∙◌}
use mathlib.Core.Bool.{Bool, true, false, cond}
use mathlib.Core.List.{List, [], ◌∷◌}
use Prim.Native.Nat.{◌≤◌, ◌<◌}
use native.Mathlib.Omega.{arith}
use lib.ListN.{length}
use Rattle.rules.proofs.Clash.{clash}
use Rattle.bus.specs.declared.word.Word.{Word}
use Rattle.card.specs.Memory.{block_cells, the_cell, word_address}
use Rattle.message.specs.declared.state.OpenMessage.{OpenMessage}
use Rattle.message.specs.Asked.{asked_of}
use Rattle.message.specs.Message.{moved_message}
use Rattle.message.specs.Words.{own_command}
use Rattle.message.proofs.AskedBounds.{cell_in_table}
use Rattle.terminal.specs.State.{Card, with_table, with_flags, with_message}
use Rattle.terminal.specs.Opening.{opened_message, table_word_at, opened_as}
use Rattle.terminal.specs.Event.{
  Event,
  word,
  silence,
  read_queue,
  host_write,
  move_table,
  set_flags,
  none,
  opens,
  quietly,
}
use Rattle.terminal.specs.WordStep.{word_met, word_step}
use Rattle.terminal.specs.SilenceStep.{silence_step}
use Rattle.terminal.specs.Machine.{
  read_queue_step,
  host_write_step,
  move_table_step,
  set_flags_step,
  step,
  run,
}
use Rattle.terminal_laws.specs.Written.{table_address}
use Rattle.terminal_laws.specs.AtRest.{WholeAndFit, AtRest}
use Rattle.terminal_laws.proofs.FitParts.{fit_card_parts, fit_card_whole, open_block_fits}
use Rattle.terminal_laws.proofs.FitMessage.{fit_block}
use Rattle.terminal_laws.proofs.FitLaws.{FitEvent, fit_stays_fit, AllFit}
use Rattle.terminal_laws.proofs.StepFrame.{step_writes_only}
use Rattle.terminal_laws.proofs.OneBlock.Acts.{opens_something}

-- ---- whole and fit

pub whole_and_fit_stays : (event : Event) (old : Card)
    → FitEvent event → WholeAndFit old → WholeAndFit (step event old).card
whole_and_fit_stays event old in_order sound =
    record {
      whole_memory = (step_writes_only event old).same_length ∙ sound.whole_memory;
      fit = fit_card_whole (fit_stays_fit event old in_order (fit_card_parts old sound.fit));
    }

pub whole_and_fit_run : (events : List Event) (old : Card)
    → AllFit events → WholeAndFit old → WholeAndFit (run events old)
unfolding AllFit run
whole_and_fit_run [] old in_order sound = sound
whole_and_fit_run (event ∷ events) old in_order sound =
    whole_and_fit_run events (step event old).card in_order.1
    (whole_and_fit_stays event old in_order.0 sound)

-- ---- at rest

own_stays : (own : Bool) (heard : Word) (old : Card) → old.core.message ≡ None
    → (cond own (opens heard old) (quietly old)).opened ≡ none
    → (cond own (opens heard old) (quietly old)).card.core.message ≡ None
own_stays true heard old idle nothing = absurd (opens_something (asked_of heard.value) nothing)
own_stays false heard old idle nothing = idle

word_stays : (message : Option OpenMessage) (heard : Word) (old : Card)
    → old.core.message ≡ None → message ≡ None → (word_met message heard old).opened ≡ none
    → (word_met message heard old).card.core.message ≡ None
word_stays None heard old idle is nothing =
    own_stays (own_command old.core.station old.core.flags heard) heard old idle nothing
word_stays (Some message) heard old idle is nothing = absurd (clash (cc))

-- with nothing open, what opens nothing leaves nothing open
idle_stays : (event : Event) (old : Card) → old.core.message ≡ None
    → (step event old).opened ≡ none → (step event old).card.core.message ≡ None
unfolding step word_step silence_step read_queue_step host_write_step move_table_step set_flags_step
    with_table with_flags with_message moved_message
idle_stays (word heard) old idle nothing =
    word_stays old.core.message heard old idle idle nothing
idle_stays (silence line time) old idle nothing = rw idle
idle_stays read_queue old idle nothing = idle
idle_stays (host_write address words) old idle nothing = idle
idle_stays (move_table table) old idle nothing = rw idle
idle_stays (set_flags flags) old idle nothing = idle

pub rest_stays : (event : Event) (old : Card)
    → FitEvent event → (step event old).opened ≡ none → AtRest old → AtRest (step event old).card
rest_stays event old in_order nothing rest =
    record {
      whole_and_fit = whole_and_fit_stays event old in_order rest.whole_and_fit;
      idle = idle_stays event old rest.idle nothing;
    }

-- ---- blocks in memory

module _ (old : Card) (sound : WholeAndFit old) where
  module _ (message : OpenMessage) (is_open : old.core.message ≡ Some message) where
    -- the block of the open message, to its last cell
    pub block_in_memory : word_address message.block (the_cell block_cells) ≤ length old.ram
    block_in_memory =
        let on_card =
        open_block_fits old.core message (fit_card_parts old sound.fit).core is_open in
        omega (arith, on_card.0, sound.whole_memory)

    -- the table cell of its opening
    pub table_cell_in_memory : table_address message < length old.ram
    table_cell_in_memory =
        let on_card =
        open_block_fits old.core message (fit_card_parts old sound.fit).core is_open in
        omega (arith, on_card.1, sound.whole_memory, cell_in_table message.command)

  -- the block of a message that a word opens
  pub opened_block_in_memory : (heard : Word)
      → word_address (opened_as heard old.core old.ram).block (the_cell block_cells)
      ≤ length old.ram
  unfolding opened_message
  opened_block_in_memory heard =
      omega (
        arith,
        fit_block (asked_of heard.value).block (table_word_at heard old.core old.ram),
        sound.whole_memory,
      )
