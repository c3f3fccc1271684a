-- What a terminal has open while the words of a segment come: nothing, or a message on the line, of
-- a known command at a known stage. What each decision on a word makes of that; data words change
-- neither. Assumes nothing.
use Rattle.std.proofs.Common.{None, Option, Some}
use mathlib.Core.Path.{◌≡◌, refl, sym, subst}
use mathlib.Core.Bool.{Bool, true, false, beq}
use mathlib.Core.List.{List, [], ◌∷◌}
use Prim.Native.Nat.{ℕ, suc}
use lib.Dec.{leb}
use Rattle.rules.proofs.Cases.{beq_same}
use Rattle.rules.proofs.Choices.{by_test}
use Rattle.bus.specs.declared.word.Word.{Word}
use Rattle.message.specs.declared.judge.WordAct.{WordAct}
use Rattle.message.specs.declared.judge.WordAct.TheVariants.{
  Ignore,
  Store,
  Check,
  TakeSecond,
  TakeStatus,
  Fault,
  Supersede,
  Drop,
}
use Rattle.message.specs.declared.state.Stage.{Stage}
use Rattle.message.specs.declared.state.Stage.TheVariants.{
  Data,
  SecondCommand,
  AwaitingStatus,
  Skipping,
}
use Rattle.message.specs.declared.state.OpenMessage.{OpenMessage}
use Rattle.message.specs.Message.{further}
use Rattle.message.specs.Asked.{asked_of, asks, keeps_back}
use Rattle.message.specs.Words.{
  own_command,
  in_data,
  in_second_command,
  in_awaiting_status,
  word_in_stage,
  on_word,
}
use Rattle.terminal.specs.State.{Card, with_message}
use Rattle.terminal.specs.Opening.{opened_message, opened_core, opening}
use Rattle.terminal.specs.Closing.{closing, faulted}
use Rattle.terminal.specs.Event.{word, Outcome}
use Rattle.terminal.specs.WordStep.{word_done, word_met, word_step}
use Rattle.terminal.specs.Machine.{step}
use Rattle.terminal_laws.specs.Closes.{word_judged}
use Rattle.terminal_laws.proofs.StepFrame.{word_step_lem}
use Rattle.rack.specs.Segment.{data_word, data_words}
use Rattle.rack.specs.Hearing.{hears}

module _ (line : Bool) (Holds : ℕ → Stage → Type 0) where
  pub data Met (now : Card) : Type 0 where
    idle : now.core.message ≡ None → Met now
    going : (message : OpenMessage) → now.core.message ≡ Some message → message.line ≡ line
        → Holds message.command message.stage → Met now

  -- a message that a word opens
  pub opened_met : (heard : Word) (now : Card) → heard.line ≡ line
      → ((asked_of heard.value).illegal ≡ false → Holds heard.value Data)
      → ((asked_of heard.value).illegal ≡ true → Holds heard.value Skipping)
      → Met (opening heard now)
  unfolding opening opened_core opened_message with_message
  opened_met heard now on_line in_data_lem skipping =
      going _ refl on_line
      (by_test (λ (stage : Stage). Holds heard.value stage) (asked_of heard.value).illegal
      skipping in_data_lem)

  -- ---- what a decision needs, so that this stays

  abbrev pub Needs : OpenMessage → Word → WordAct → Type 0
  Needs message heard Ignore = Holds message.command message.stage
  Needs message heard (Store taken) = Holds message.command Data
  Needs message heard (Check taken) = Holds message.command Data
  Needs message heard (TakeSecond value) = Holds message.command SecondCommand
  Needs message heard TakeStatus = Holds message.command Data
  Needs message heard (Fault code) = Unit {0}
  Needs message heard Supersede = Holds heard.value Data × Holds heard.value Skipping
  Needs message heard Drop = Holds heard.value Data × Holds heard.value Skipping

  module _ (message : OpenMessage) (heard : Word) (now : Card)
      (is : now.core.message ≡ Some message) (on_line : message.line ≡ line)
      (heard_on : heard.line ≡ line) where
    done_met : (act : WordAct) → Needs message heard act
        → Met (word_done act (asks message) message heard now).card
    unfolding word_done further faulted closing with_message
    done_met Ignore needs = going message is on_line needs
    done_met (Store taken) needs = going _ refl on_line needs
    done_met (Check taken) needs = going _ refl on_line needs
    done_met (TakeSecond value) needs = going _ refl on_line needs
    done_met TakeStatus needs = going _ refl on_line needs
    done_met (Fault code) needs = idle refl
    done_met Supersede needs = opened_met heard _ heard_on (λ _. needs.0) (λ _. needs.1)
    done_met Drop needs = opened_met heard now heard_on (λ _. needs.0) (λ _. needs.1)

    pub word_met_lem : Needs message heard (word_judged now message heard)
        → Met (step (word heard) now).card
    word_met_lem needs =
        subst (λ (any : Outcome). Met any.card)
        (sym (word_step_lem now message is heard refl))
        (done_met (word_judged now message heard) needs)

  -- ---- data words

  module _ (message : OpenMessage) (station flags value time : ℕ) where
    abbrev heard : Word
    heard = data_word line value time

    in_stage : (stage : Stage) → message.stage ≡ stage → Holds message.command stage
        → Needs message heard (word_in_stage stage station (asks message) message heard)
    unfolding in_data in_second_command in_awaiting_status
    in_stage Data is holds =
        by_test (Needs message heard) (leb (asks message).takes message.taken) (λ _. tt)
        (λ _. by_test (Needs message heard) (keeps_back (asks message) message)
        (λ _. holds) (λ _. holds))
    in_stage SecondCommand is holds = tt
    in_stage AwaitingStatus is holds = tt
    in_stage Skipping is holds =
        subst (λ (any : Stage). Holds message.command any) (sym is) holds

    data_needs : message.line ≡ line → Holds message.command message.stage
        → Needs message heard (on_word station flags (asks message) message heard)
    unfolding on_word own_command
    data_needs on_line holds =
        let same : beq line message.line ≡ true = rw on_line (beq_same line) in
        rw same (in_stage message.stage refl holds)

  idle_data : (value time : ℕ) (now : Card) → now.core.message ≡ None
      → Met (step (word (data_word line value time)) now).card
  unfolding step word_step own_command
  idle_data value time now is =
      subst (λ (any : Option OpenMessage). Met (word_met any (data_word line value time) now).card)
      (sym is)
      (idle is)

  one_data : (value time : ℕ) (now : Card) → Met now
      → Met (step (word (data_word line value time)) now).card
  one_data value time now (idle is) = idle_data value time now is
  one_data value time now (going message is on_line holds) =
      word_met_lem message (data_word line value time) now is on_line refl
      (data_needs message now.core.station now.core.flags value time on_line holds)

  pub data_met : (values : List ℕ) (time : ℕ → ℕ) (place : ℕ) (now : Card) → Met now
      → Met (hears (data_words line time place values) now)
  unfolding hears data_words
  data_met [] time place now met = met
  data_met (value ∷ values) time place now met =
      data_met values time (suc place) (step (word (data_word line value (time place))) now).card
      (one_data value (time place) now met)
