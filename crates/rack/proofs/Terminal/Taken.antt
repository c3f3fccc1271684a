-- A message in its data takes the words of a segment, all at once, and the silence behind them is
-- its sound end. For every command. Assumes nothing.
use Rattle.std.proofs.Common.{Some}
use mathlib.Core.Path.{◌≡◌, refl, ◌∙◌}
use mathlib.Core.Bool.{false}
use mathlib.Core.List.{List}
use Prim.Native.Nat.{ℕ}
use native.Mathlib.Nat.{zero-add}
use native.Mathlib.Omega.{arith}
use lib.ListN.{length}
use borrow.Author.Tests.{le-ltb}
use Rattle.rules.proofs.Cases.{beq_same}
use Rattle.bus.specs.declared.word.Word.{Word}
use Rattle.card.specs.Memory.{with_cells}
use Rattle.message.specs.declared.judge.SilenceAct.TheVariants.{End}
use Rattle.message.specs.declared.state.Stage.TheVariants.{Data}
use Rattle.message.specs.declared.state.OpenMessage.{OpenMessage}
use Rattle.message.specs.Message.{further}
use Rattle.message.specs.Asked.{asks}
use Rattle.message.specs.Silence.{on_silence}
use Rattle.message.specs.Wants.{wants}
use Rattle.terminal.specs.State.{Card, card, with_message}
use Rattle.terminal.specs.Row.{with_taken}
use Rattle.terminal.proofs.RowWords.{row_is_words}
use Rattle.terminal_laws.specs.Closes.{silence_judged}
use Rattle.rack.specs.Segment.{data_words}
use Rattle.rack.specs.Hearing.{hears}
use Rattle.rack.proofs.Segments.{values_of_data, length_of_data, all_of_data}
use Rattle.rack.proofs.Terminal.Hear.{hears_is_run}

-- ---- they are taken

-- the message is open and in its data, none of its words is taken, and none is kept back
pub record AtItsData (message : OpenMessage) (old : Card) : Type 0 where
  pub is_open : old.core.message ≡ Some message
  pub in_data_lem : message.stage ≡ Data
  pub none_yet : message.taken ≡ 0
  pub not_busy : message.busy ≡ false

-- the message and the card with words taken
abbrev pub filled_message : List ℕ → OpenMessage → OpenMessage
filled_message words message = further Data message.second (length words) message

abbrev pub filled : List ℕ → OpenMessage → Card → Card
filled words message old =
    card (with_taken (length words) message old.core) old.queue
    (with_cells old.ram message.block 0 words)

module _ (message : OpenMessage) (old : Card) (at_data : AtItsData message old) (words : List ℕ)
    (full : length words ≡ (asks message).takes) where
  wanted : (asks message).takes ≡ wants message
  wanted = rw (at_data.in_data_lem, at_data.not_busy)

  pub words_are_taken : (time : ℕ → ℕ) (place : ℕ)
      → hears (data_words message.line time place words) old ≡ filled words message old
  words_are_taken time place =
      let row : List Word = data_words message.line time place words in
      let long = length_of_data message.line time words place in
      hears_is_run row old
      ∙ row_is_words row message old at_data.is_open at_data.in_data_lem
      (omega (arith, at_data.none_yet, long, full, wanted))
      (all_of_data message.line time words place)
      ∙ rw (
        at_data.none_yet,
        long,
        zero-add (length words),
        values_of_data message.line time words place,
      )

-- ---- then a silence is the end

pub filled_is_open : (words : List ℕ) (message : OpenMessage) (old : Card)
    → (filled words message old).core.message ≡ Some (filled_message words message)
unfolding with_message
filled_is_open words message old = refl

pub silence_is_end : (words : List ℕ) (message : OpenMessage)
    → length words ≡ (asks message).takes
    → silence_judged (filled_message words message) message.line ≡ End
unfolding on_silence further
silence_is_end words message full =
    rw (
      beq_same message.line,
      le-ltb (length words) (asks message).takes (omega (arith, full)),
    )
