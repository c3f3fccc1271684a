-- The laws of `specs/Words.antt` and `specs/Silence.antt`, as the code comes to each decision.
-- Assumes nothing.
use Rattle.std.specs.Option.{unwrap_or}
use mathlib.Core.Path.{◌≡◌}
use mathlib.Core.Bool.{Bool, true, false, not, ◌&&◌, ◌||◌, beq}
use Prim.Native.Nat.{ℕ}
use borrow.Author.Tests.{eq-eqb, ne_eqb, not-false}
use Rattle.bus.specs.declared.word.Word.{Word}
use Rattle.bus.specs.Command.{address_of}
use Rattle.message.specs.declared.asked.Asked.{Asked}
use Rattle.message.specs.declared.judge.WordAct.{WordAct}
use Rattle.message.specs.declared.judge.WordAct.TheVariants.{
  Ignore,
  TakeStatus,
  Fault,
  Supersede,
}
use Rattle.message.specs.declared.judge.SilenceAct.{SilenceAct}
use Rattle.message.specs.declared.state.Stage.{Stage}
use Rattle.message.specs.declared.state.Stage.TheVariants.{
  Data,
  SecondCommand,
  AwaitingStatus,
  Skipping,
}
use Rattle.message.specs.declared.state.OpenMessage.{OpenMessage}
use Rattle.message.specs.Words.{own_command}
use Rattle.message.specs.Words.{
  in_data,
  in_second_command,
  in_awaiting_status,
  word_in_stage,
  on_word,
}
use Rattle.message.specs.Silence.{silence_in_stage}

-- rule 6's test, where a call told whether there is a second command
pub first_told : (sync receive first answered second outcome : Bool) → second ≡ not answered
    → (sync && receive && first && answered) ≡ outcome
    → (sync && receive && first && not second) ≡ outcome
first_told sync receive first true second outcome is seen = rw is seen
first_told sync receive first false second outcome is seen = rw is seen

-- ---- the answering status: its address is the second command's, or it is not

module _ (second : ℕ) (word : Word) (address wanted : ℕ)
    (sound : not word.sound ≡ false) (sync : not word.sync ≡ false)
    (is_Address : address ≡ address_of word.value) (is_wanted : wanted ≡ address_of second) where
  pub status_answers : address ≡ wanted → TakeStatus ≡ in_awaiting_status second word
  unfolding in_awaiting_status
  status_answers same =
      rw (
        not-false word.sound sound,
        not-false word.sync sync,
        ← is_Address,
        ← is_wanted,
        eq-eqb address wanted same,
      )

  pub status_strange : (address ≡ wanted → ⊥) → Fault 5 ≡ in_awaiting_status second word
  unfolding in_awaiting_status
  status_strange other =
      rw (
        not-false word.sound sound,
        not-false word.sync sync,
        ← is_Address,
        ← is_wanted,
        ne_eqb address wanted other,
      )

pub ruleset answering = (status_answers, status_strange)

-- ---- by the stage

module _ (act : WordAct) (stage : Stage) (station : ℕ) (asked : Asked) (message : OpenMessage)
    (word : Word) where
  pub word_in_data : stage ≡ Data → act ≡ in_data station asked message word
      → act ≡ word_in_stage stage station asked message word
  word_in_data is same = rw is same

  pub word_in_second_command : stage ≡ SecondCommand → act ≡ in_second_command word
      → act ≡ word_in_stage stage station asked message word
  word_in_second_command is same = rw is same

  pub word_in_awaiting_status : (second : ℕ) → stage ≡ AwaitingStatus
      → second ≡ unwrap_or message.second 0 → act ≡ in_awaiting_status second word
      → act ≡ word_in_stage stage station asked message word
  word_in_awaiting_status second is is_second_lem same = rw (is, ← is_second_lem) same

  pub word_in_skipping : stage ≡ Skipping → act ≡ Ignore
      → act ≡ word_in_stage stage station asked message word
  word_in_skipping is same = rw is same

pub ruleset word_stages =
    (word_in_data, word_in_second_command, word_in_awaiting_status, word_in_skipping)

module _ (act : SilenceAct) (stage : Stage) (asked : Asked) (message : OpenMessage) where
  pub silence_in_data : stage ≡ Data → act ≡ silence_in_stage Data asked message
      → act ≡ silence_in_stage stage asked message
  silence_in_data is same = rw is same

  pub silence_in_second_command : stage ≡ SecondCommand
      → act ≡ silence_in_stage SecondCommand asked message
      → act ≡ silence_in_stage stage asked message
  silence_in_second_command is same = rw is same

  pub silence_in_awaiting_status : stage ≡ AwaitingStatus
      → act ≡ silence_in_stage AwaitingStatus asked message
      → act ≡ silence_in_stage stage asked message
  silence_in_awaiting_status is same = rw is same

  pub silence_in_skipping : stage ≡ Skipping → act ≡ silence_in_stage Skipping asked message
      → act ≡ silence_in_stage stage asked message
  silence_in_skipping is same = rw is same

pub ruleset silence_stages =
    (silence_in_data, silence_in_second_command, silence_in_awaiting_status, silence_in_skipping)

-- ---- superseding, elsewhere, or by the stage

module _ (station flags : ℕ) (asked : Asked) (message : OpenMessage) (word : Word) (own : Bool)
    (is_own_lem : own ≡ own_command station flags word) where
  pub word_supersedes :
      (own && (not (beq word.line message.line) || not word.joined)) ≡ true
      → Supersede ≡ on_word station flags asked message word
  unfolding on_word
  word_supersedes holds = rw (← is_own_lem, holds)

  module _
      (stays : (own && (not (beq word.line message.line) || not word.joined)) ≡ false)
    where
      pub word_elsewhere : not (beq word.line message.line) ≡ true
          → Ignore ≡ on_word station flags asked message word
      unfolding on_word
      word_elsewhere holds = rw (← is_own_lem, stays, holds)

      pub word_here : (act : WordAct) → not (beq word.line message.line) ≡ false
          → act ≡ word_in_stage message.stage station asked message word
          → act ≡ on_word station flags asked message word
      unfolding on_word
      word_here act fails same = rw (← is_own_lem, stays, fails) same

pub ruleset on_words = (word_supersedes, word_elsewhere, word_here)
