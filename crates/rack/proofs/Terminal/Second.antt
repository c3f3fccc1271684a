-- A data receive that has taken no word yet meets the second command of a transfer: it takes that
-- of another terminal, and a broadcast is dropped for an own one. Assumes nothing.
use Rattle.std.proofs.Common.{None, Some}
use mathlib.Core.Path.{◌≡◌, refl, ap, ◌∙◌}
use mathlib.Core.Logic.{◌≢◌}
use mathlib.Core.Bool.{Bool, true, false, and-false}
use Prim.Native.Nat.{ℕ, ◌<◌}
use native.Mathlib.Omega.{arith}
use borrow.Author.Tests.{eq-eqb, ne_eqb, lt-leb}
use Rattle.rules.proofs.Cases.{beq_same}
use Rattle.bus.specs.declared.word.Word.{Word}
use Rattle.bus.specs.Command.{address_of, is_broadcast, mode_code_of}
use Rattle.message.specs.declared.judge.WordAct.TheVariants.{TakeSecond, Drop}
use Rattle.message.specs.declared.state.Stage.{Stage}
use Rattle.message.specs.declared.state.Stage.TheVariants.{Data, SecondCommand}
use Rattle.message.specs.declared.state.OpenMessage.{OpenMessage}
use Rattle.message.specs.Asked.{asks}
use Rattle.message.specs.Words.{own_command, asks_for_data, in_data, on_word}
use Rattle.terminal.specs.State.{Card, with_message}
use Rattle.terminal.specs.Opening.{opened_message, opened_core, opening}
use Rattle.terminal.specs.Event.{word, Outcome, quietly}
use Rattle.terminal.specs.WordStep.{word_done}
use Rattle.terminal.specs.Machine.{step}
use Rattle.terminal_laws.specs.Closes.{word_judged}
use Rattle.terminal_laws.proofs.StepFrame.{word_step_lem}
use Rattle.terminal_laws.proofs.OneBlock.Stretch.{onward}
use Rattle.rack.specs.Segment.{command_word}
use Rattle.rack.specs.Asked.{FitTransfer}
use Rattle.rack.proofs.Terminal.Opened.{message_of, opened_card, opened_in_data}
use Rattle.rack.proofs.Terminal.Kinds.{words_some}
use Rattle.rack.proofs.Terminal.Columns.{transfer_columns}

-- a data receive at its first word: it may be a second command
pub record AtItsSecond (message : OpenMessage) (old : Card) : Type 0 where
  pub is_open : old.core.message ≡ Some message
  pub in_data_lem : message.stage ≡ Data
  pub none_taken : message.taken ≡ 0
  pub none_yet : message.second ≡ None
  pub receives : (asks message).receive ≡ true
  pub some : 0 < (asks message).takes

-- the card where a second command is taken, at a stage
abbrev pub card_at : ℕ → Stage → OpenMessage → Card → Card
card_at value stage message old = onward old message stage (Some value) 0 old.ram

module _ (message : OpenMessage) (old : Card) (first : AtItsSecond message old) (value : ℕ)
    (asks_for_data_lem : asks_for_data value ≡ true) where
  -- as it comes
  abbrev heard : ℕ → Word
  heard time = command_word message.line true value time

  -- ---- it is another's

  module _ (to_one : is_broadcast value ≡ false) (other : address_of value ≢ old.core.station)
      (same_count : mode_code_of value ≡ mode_code_of message.command) where
    second_judged : (time : ℕ) → word_judged old message (heard time) ≡ TakeSecond value
    unfolding on_word in_data
    second_judged time =
        rw (
          beq_same message.line,
          and-false (own_command old.core.station old.core.flags (heard time)),
          first.in_data_lem,
          first.none_taken,
          lt-leb (asks message).takes 0 first.some,
          first.receives,
          first.none_yet,
          ne_eqb (address_of value) old.core.station other,
          and-false (is_broadcast message.command),
          asks_for_data_lem,
          to_one,
          eq-eqb (mode_code_of value) (mode_code_of message.command) same_count,
        )

    pub second_is_taken : (time : ℕ)
        → step (word (heard time)) old ≡ quietly (card_at value SecondCommand message old)
    unfolding word_done
    second_is_taken time =
        word_step_lem old message first.is_open (heard time) (second_judged time)
        ∙ rw first.none_taken

  -- ---- it is own, and the message is a broadcast: that one is dropped

  module _ (to_all_lem : is_broadcast message.command ≡ true)
      (home : address_of value ≡ old.core.station) where
    drop_judged : (time : ℕ) → word_judged old message (heard time) ≡ Drop
    unfolding on_word in_data
    drop_judged time =
        rw (
          beq_same message.line,
          and-false (own_command old.core.station old.core.flags (heard time)),
          first.in_data_lem,
          first.none_taken,
          lt-leb (asks message).takes 0 first.some,
          first.receives,
          first.none_yet,
          eq-eqb (address_of value) old.core.station home,
          to_all_lem,
          asks_for_data_lem,
        )

    pub broadcast_is_dropped : (time : ℕ)
        → (step (word (heard time)) old).card ≡ opening (heard time) old
    unfolding word_done
    broadcast_is_dropped time =
        ap (λ (outcome : Outcome). outcome.card)
        (word_step_lem old message first.is_open (heard time) (drop_judged time))

-- ---- the message that the first command of a transfer opens is such a one

pub opened_at_second : (line : Bool) (time first second : ℕ) (old : Card)
    → FitTransfer first second
    → AtItsSecond (message_of line false first time old) (opened_card line false first time old)
unfolding opening opened_core opened_message with_message
opened_at_second line time first second old fit =
    let columns = transfer_columns first second fit in
    record {
      is_open = refl;
      in_data_lem = opened_in_data line false first time old columns.first_fit.legal;
      none_taken = refl;
      none_yet = refl;
      receives = columns.first_receives;
      some = omega (arith, columns.first_takes, words_some second);
    }
