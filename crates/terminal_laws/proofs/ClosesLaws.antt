-- An open message closes, is dropped, or stays open with all that its opening fixed:
-- `message_becomes`. For every card, fit or not. Assumes nothing.
use Rattle.std.proofs.Common.{Option, Some}
use mathlib.Core.Path.{◌≡◌, refl, ap, ◌∙◌}
use mathlib.Core.Bool.{Bool}
use Prim.Native.Nat.{ℕ}
use Rattle.bus.specs.declared.word.Word.{Word}
use Rattle.message.specs.declared.judge.WordAct.{WordAct}
use Rattle.message.specs.declared.judge.WordAct.TheVariants.{
  Ignore,
  Store,
  Check,
  TakeSecond,
  TakeStatus,
  Fault,
  Supersede,
  Drop,
}
use Rattle.message.specs.declared.judge.SilenceAct.{SilenceAct}
use Rattle.message.specs.declared.judge.SilenceAct.TheVariants as silence_acts
use Rattle.message.specs.declared.state.Stage.{Stage}
use Rattle.message.specs.declared.state.OpenMessage.{OpenMessage}
use Rattle.message.specs.Message.{further, moved_message}
use Rattle.message.specs.Asked.{asks}
use Rattle.terminal.specs.State.{Card, with_table, with_flags, with_message}
use Rattle.terminal.specs.Event.{
  Event,
  word,
  silence,
  read_queue,
  host_write,
  move_table,
  set_flags,
  Outcome,
}
use Rattle.terminal.specs.WordStep.{word_done}
use Rattle.terminal.specs.SilenceStep.{silence_done}
use Rattle.terminal.specs.Machine.{
  read_queue_step,
  host_write_step,
  move_table_step,
  set_flags_step,
  step,
}
use Rattle.terminal_laws.specs.Closes.{
  word_judged,
  silence_judged,
  by_fault,
  by_superseding,
  by_silence,
  by_sound_end,
  SameOpening,
  Becomes,
  closed,
  dropped,
  stays,
}
use Rattle.terminal_laws.proofs.StepFrame.{word_step_lem, silence_step_lem}

same_opening : (message : OpenMessage) → SameOpening message message
same_opening message =
    record {
      command = refl;
      line = refl;
      block = refl;
      table = refl;
      busy = refl;
      queued = refl;
      opened = refl;
    }

same_further : (stage : Stage) (second : Option ℕ) (taken : ℕ) (message : OpenMessage)
    → SameOpening message (further stage second taken message)
unfolding further
same_further stage second taken message =
    record {
      command = refl;
      line = refl;
      block = refl;
      table = refl;
      busy = refl;
      queued = refl;
      opened = refl;
    }

module _ (old : Card) (message : OpenMessage) (is_open : old.core.message ≡ Some message) where
  after_word : (heard : Word) {act : WordAct} → word_judged old message heard ≡ act
      → (step (word heard) old).card.core.message
      ≡ (word_done act (asks message) message heard old).card.core.message
  after_word heard judged =
      ap (λ (outcome : Outcome). outcome.card.core.message)
      (word_step_lem old message is_open heard judged)

  by_word : (act : WordAct) (heard : Word) → word_judged old message heard ≡ act
      → Becomes old message (word heard)
  unfolding word_done with_message
  by_word Ignore heard judged = stays (after_word heard judged ∙ is_open) (same_opening message)
  by_word (Store taken) heard judged =
      stays (after_word heard judged) (same_further _ _ taken message)
  by_word (Check taken) heard judged =
      stays (after_word heard judged) (same_further _ _ taken message)
  by_word (TakeSecond value) heard judged =
      stays (after_word heard judged) (same_further _ _ _ message)
  by_word TakeStatus heard judged = stays (after_word heard judged) (same_further _ _ _ message)
  by_word (Fault code) heard judged = closed (by_fault judged)
  by_word Supersede heard judged = closed (by_superseding judged)
  by_word Drop heard judged = dropped judged

  after_silence : (line : Bool) (time : ℕ) {act : SilenceAct} → silence_judged message line ≡ act
      → (step (silence line time) old).card.core.message
      ≡ (silence_done act (asks message) message time old).card.core.message
  after_silence line time judged =
      ap (λ (outcome : Outcome). outcome.card.core.message)
      (silence_step_lem old message is_open line time judged)

  by_a_silence : (act : SilenceAct) (line : Bool) (time : ℕ) → silence_judged message line ≡ act
      → Becomes old message (silence line time)
  unfolding silence_done with_message
  by_a_silence silence_acts.Ignore line time judged =
      stays (after_silence line time judged ∙ is_open) (same_opening message)
  by_a_silence silence_acts.AwaitStatus line time judged =
      stays (after_silence line time judged) (same_further _ _ _ message)
  by_a_silence (silence_acts.Fault code) line time judged = closed (by_silence judged)
  by_a_silence silence_acts.End line time judged = closed (by_sound_end judged)

-- the law
pub message_becomes : (event : Event) (old : Card) (message : OpenMessage)
    → old.core.message ≡ Some message → Becomes old message event
unfolding step read_queue_step host_write_step move_table_step set_flags_step with_table with_flags
    with_message moved_message
message_becomes (word heard) old message is_open =
    by_word old message is_open (word_judged old message heard) heard refl
message_becomes (silence line time) old message is_open =
    by_a_silence old message is_open (silence_judged message line) line time refl
message_becomes read_queue old message is_open = stays is_open (same_opening message)
message_becomes (host_write address words) old message is_open =
    stays is_open (same_opening message)
message_becomes (move_table table) old message is_open =
    stays (ap (λ (there : Option OpenMessage). moved_message there) is_open)
    (record {
      command = refl;
      line = refl;
      block = refl;
      table = refl;
      busy = refl;
      queued = refl;
      opened = refl;
    })
message_becomes (set_flags flags) old message is_open = stays is_open (same_opening message)
