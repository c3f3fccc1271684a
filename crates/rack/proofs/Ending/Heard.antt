-- What a terminal has open behind the words given: nothing, a message of the first command, or one
-- of the second. Assumes nothing.
use Rattle.std.proofs.Common.{None, Option, Some, is_some}
use mathlib.Core.Path.{◌≡◌, refl, sym, subst}
use mathlib.Core.Bool.{Bool, true, false, not, ◌&&◌, beq, and-false}
use Prim.Native.Nat.{ℕ}
use lib.Dec.{eqb, leb}
use Rattle.rules.proofs.Cases.{beq_same}
use Rattle.rules.proofs.Choices.{by_test}
use Rattle.bus.specs.declared.word.Word.{Word}
use Rattle.message.specs.declared.state.Stage.{Stage}
use Rattle.message.specs.declared.state.Stage.TheVariants.{
  Data,
  SecondCommand,
  AwaitingStatus,
  Skipping,
}
use Rattle.message.specs.declared.state.OpenMessage.{OpenMessage}
use Rattle.message.specs.Asked.{asked_of, asks}
use Rattle.message.specs.Words.{
  own_command,
  drops_broadcast,
  is_second,
  in_data,
  word_in_stage,
  on_word,
}
use Rattle.terminal.specs.State.{Card}
use Rattle.terminal.specs.Event.{word, Outcome}
use Rattle.terminal.specs.WordStep.{word_met, word_step}
use Rattle.terminal.specs.Machine.{step}
use Rattle.rack.specs.Segment.{Segment, segment, command_word, words_on}
use Rattle.rack.specs.Hearing.{hears}
use Rattle.rack.proofs.Ending.Stages.{
  AsOpened,
  OfFirst,
  OfEither,
  skips,
  takes,
  opened,
  OfGiven,
}
use Rattle.rack.proofs.Ending.Met.{
  Met,
  idle,
  going,
  opened_met,
  Needs,
  word_met_lem,
  data_met,
}

module _ (line : Bool) where
  -- ---- a command that finds nothing open

  idle_command : (Holds : ℕ → Stage → Type 0) (joined : Bool) (value time : ℕ) (now : Card)
      → now.core.message ≡ None → ((asked_of value).illegal ≡ false → Holds value Data)
      → ((asked_of value).illegal ≡ true → Holds value Skipping)
      → Met line Holds (step (word (command_word line joined value time)) now).card
  unfolding step word_step
  idle_command Holds joined value time now is in_data_lem skipping =
      let heard : Word = command_word line joined value time in
      subst (λ (any : Option OpenMessage). Met line Holds (word_met any heard now).card) (sym is)
      (by_test (λ (any : Outcome). Met line Holds any.card)
      (own_command now.core.station now.core.flags heard)
      (λ _. opened_met line Holds heard now refl in_data_lem skipping) (λ _. idle is))

  -- ---- a second command

  module _ (first second time : ℕ) (message : OpenMessage) (station flags : ℕ)
      (is : message.command ≡ first) where
    abbrev heard : Word
    heard = command_word line true second time

    abbrev Allows : Stage → Type 0
    Allows stage =
        Needs line (OfEither first second) message heard
        (word_in_stage stage station (asks message) message heard)

    in_stage : (stage : Stage) → message.stage ≡ stage
        → AsOpened (asked_of first).illegal stage → Allows stage
    unfolding in_data
    in_stage Data at legal =
        let Fits = Needs line (OfEither first second) message heard in
        by_test Fits (leb (asks message).takes message.taken) (λ _. tt)
        (λ _. by_test Fits
        ((asks message).receive && eqb message.taken 0 && not (is_some message.second))
        (λ _. by_test Fits (drops_broadcast station message.command second)
        (λ _. (opened refl tt, opened refl tt))
        (λ _. by_test Fits (is_second station message.command second)
        (λ _. takes legal is refl) (λ _. tt)))
        (λ _. tt))
    in_stage SecondCommand at never = absurd never
    in_stage AwaitingStatus at never = absurd never
    in_stage Skipping at illegal = skips illegal is at

    second_needs : message.line ≡ line → AsOpened (asked_of first).illegal message.stage
        → Needs line (OfEither first second) message heard
        (on_word station flags (asks message) message heard)
    unfolding on_word
    second_needs on_line as_opened =
        let same : beq line message.line ≡ true = rw on_line (beq_same line) in
        rw (same, and-false (own_command station flags heard))
        (in_stage message.stage refl as_opened)

  second_met : (first second time : ℕ) (now : Card) → Met line (OfFirst first) now
      → Met line (OfEither first second)
      (step (word (command_word line true second time)) now).card
  second_met first second time now (idle is) =
      idle_command (OfEither first second) true second time now is (λ _. opened refl tt)
      (λ _. opened refl tt)
  second_met first second time now (going message is on_line holds) =
      word_met_lem line (OfEither first second) message (command_word line true second time) now is
      on_line refl
      (second_needs first second time message now.core.station now.core.flags holds.is
      on_line holds.stage_is)

  -- ---- the words given

  pub given_met : (said : Segment) (time : ℕ → ℕ) (now : Card) → now.core.message ≡ None
      → Met line (OfGiven said.first said.second) (hears (words_on line time said) now)
  unfolding hears
  given_met said time now is =
      by_second said.second
    where
      first_met_lem : Met line (OfFirst said.first)
          (step (word (command_word line false said.first (time 0))) now).card
      first_met_lem =
          idle_command (OfFirst said.first) false said.first (time 0) now is
          (λ legal. record { is = refl; stage_is = legal })
          (λ illegal. record { is = refl; stage_is = illegal })

      by_second : (second : Option ℕ)
          → Met line (OfGiven said.first second)
          (hears (words_on line time (segment said.first second said.words)) now)
      by_second None = data_met line (OfFirst said.first) said.words time 1 _ first_met_lem
      by_second (Some value) =
          data_met line (OfEither said.first value) said.words time 2 _
          (second_met said.first value (time 1) _ first_met_lem)
