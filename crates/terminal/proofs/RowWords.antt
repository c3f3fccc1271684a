-- Data words that the open message wants: one is stored (`word_is_stored`), and a row of them,
-- stored at once, is as many words heard one after the other (`row_is_words`). Assumes nothing.
use Rattle.std.proofs.Common.{Option, Some}
use mathlib.Core.Path.{◌≡◌, refl, ap, ◌∙◌}
use mathlib.Core.List.{List, [], ◌∷◌, map}
use Prim.Native.Nat.{ℕ, suc, ◌+◌, ◌≤◌, ◌<◌}
use native.Mathlib.Omega.{arith}
use lib.ListN.{length}
use borrow.Author.Tests.{lt-leb}
use Rattle.rules.proofs.Cases.{beq_same}
use Rattle.bus.specs.declared.word.Word.{Word}
use Rattle.bus.specs.DataWords.{DataWord, DataWords, no_words, a_word, values_of}
use Rattle.card.specs.Memory.{with_cells}
use Rattle.message.specs.declared.state.Stage.{Stage}
use Rattle.message.specs.declared.state.Stage.TheVariants.{Data}
use Rattle.message.specs.declared.state.OpenMessage.{OpenMessage}
use Rattle.message.specs.Message.{further}
use Rattle.message.specs.Asked.{asks}
use Rattle.message.specs.Words.{own_command, in_data, on_word}
use Rattle.message.specs.Wants.{wants}
use Rattle.message.proofs.WantsLaws.{wanting_more, wants_further}
use Rattle.terminal.specs.State.{Card, card, with_message}
use Rattle.terminal.specs.Event.{word, Outcome, quietly}
use Rattle.terminal.specs.Row.{with_taken, word_stored, row_stored}
use Rattle.terminal.specs.WordStep.{word_done, word_step}
use Rattle.terminal.specs.Machine.{step, run}

module _ (message : OpenMessage) (old : Card) (is_open : old.core.message ≡ Some message) where
  -- a data word that is wanted is stored
  pub word_is_stored : (heard : Word) → message.taken < wants message
      → DataWord message.line heard
      → word_step heard old ≡ quietly (word_stored heard.value (message.taken + 1) message old)
  unfolding word_step word_done on_word own_command in_data
  word_is_stored heard more is =
      let wanting = wanting_more message message.taken more in
      rw (
        is_open,
        is.of_data,
        is.sound,
        is.joined,
        is.same_line,
        beq_same message.line,
        wanting.in_data_lem,
        lt-leb (asks message).takes message.taken wanting.more,
        wanting.served,
      )

  -- with no word more nothing has changed
  pub none_taken : message.stage ≡ Data
      → old ≡ card (with_taken message.taken message old.core) old.queue old.ram
  unfolding further with_message
  none_taken in_data_lem =
      let same : message ≡ further Data message.second message.taken message =
      ap (λ (stage : Stage). further stage message.second message.taken message) in_data_lem in
      ap (λ (held : Option OpenMessage). card (with_message held old.core) old.queue old.ram)
      (is_open ∙ ap (λ (again : OpenMessage). Some again) same)

-- a row of data words, as many as are wanted at the most
pub row_is_words : (row : List Word) (message : OpenMessage) (old : Card)
    → old.core.message ≡ Some message → message.stage ≡ Data
    → message.taken + length row ≤ wants message → DataWords message.line row
    → run (map word row) old ≡ row_stored row message old
unfolding run step with_cells with_message further
row_is_words [] message old is_open in_data_lem within no_words =
    let none : message.taken ≡ message.taken + 0 = omega arith in
    none_taken message old is_open in_data_lem
    ∙ ap (λ (taken : ℕ). card (with_taken taken message old.core) old.queue old.ram) none
row_is_words (heard ∷ more) message old is_open in_data_lem within (a_word first rest) =
    ap (λ (new : Outcome). run (map word more) new.card)
    (word_is_stored message old is_open heard (omega (arith, within)) first)
    ∙ row_is_words more next (word_stored heard.value (message.taken + 1) message old)
    is_next refl within_next rest
    ∙ ap (λ (taken : ℕ). card (with_taken taken message old.core) old.queue
    (with_cells old.ram message.block message.taken (values_of (heard ∷ more)))) longer
  where
    next : OpenMessage
    next = further Data message.second (message.taken + 1) message

    is_next : (with_taken (message.taken + 1) message old.core).message ≡ Some next
    is_next = refl

    longer : message.taken + 1 + length more ≡ message.taken + suc (length more)
    longer = omega arith

    within_next : message.taken + 1 + length more ≤ wants next
    within_next = rw (wants_further message (message.taken + 1) in_data_lem) (omega (arith, within))
