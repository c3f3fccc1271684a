-- Which words open a message, by `search` through the tests of rules 1 to 8: of unjoined words only
-- an own command does. Assumes nothing.
use Rattle.std.proofs.Common.{None, Option, Some}
use mathlib.Core.Path.{◌≡◌, refl}
use mathlib.Core.Logic.{◌≢◌}
use mathlib.Core.Bool.{Bool, true, false, cond, not, beq, or-true}
use Prim.Native.Nat.{ℕ}
use Rattle.rules.proofs.Choices.{by_test}
use Rattle.rules.proofs.Clash.{clash}
use Rattle.bus.specs.declared.word.Word.{Word}
use Rattle.message.specs.declared.asked.Asked.{Asked}
use Rattle.message.specs.declared.judge.WordAct.{WordAct}
use Rattle.message.specs.declared.judge.WordAct.TheVariants.{
  Ignore,
  Store,
  Check,
  TakeSecond,
  TakeStatus,
  Fault,
  Supersede,
}
use Rattle.message.specs.declared.state.Stage.{Stage}
use Rattle.message.specs.declared.state.Stage.TheVariants.{
  Data,
  SecondCommand,
  AwaitingStatus,
  Skipping,
}
use Rattle.message.specs.declared.state.OpenMessage.{OpenMessage}
use Rattle.message.specs.Asked.{asks}
use Rattle.message.specs.Words.{
  own_command,
  in_data,
  in_second_command,
  in_awaiting_status,
  word_in_stage,
  on_word,
}
use Rattle.terminal.specs.State.{Card}
use Rattle.terminal.specs.Event.{word, none, keeping, afresh, opened_by}
use Rattle.terminal.specs.WordStep.{word_done, word_met, word_step}
use Rattle.terminal.specs.Machine.{step}

-- ---- which words open

-- an opening makes the remembered status anew or keeps it, and is never nothing
pub opens_something : (asked : Asked) → opened_by asked ≡ none → ⊥
unfolding opened_by
opens_something asked = go asked.fresh
  where
    go : (fresh : Bool) → cond fresh afresh keeping ≡ none → ⊥
    go true is = clash (cc)
    go false is = clash (cc)

-- acts that open nothing
data OpensNothing : WordAct → Type 0 where
  no_opening_ignore : OpensNothing Ignore
  no_opening_store : {next : ℕ} → OpensNothing (Store next)
  no_opening_check : {next : ℕ} → OpensNothing (Check next)
  no_opening_second : {value : ℕ} → OpensNothing (TakeSecond value)
  no_opening_status : OpensNothing TakeStatus
  no_opening_fault : {code : ℕ} → OpensNothing (Fault code)

no_opening_if : {test : Bool} {act other : WordAct}
    → (test ≡ true → OpensNothing act) → (test ≡ false → OpensNothing other)
    → OpensNothing (cond test act other)
no_opening_if {test} holds fails = by_test OpensNothing test holds fails

ruleset no_opening = (
  no_opening_ignore,
  no_opening_store,
  no_opening_check,
  no_opening_second,
  no_opening_status,
  no_opening_fault,
  no_opening_if,
)

nothing_opened : {act : WordAct} (asked : Asked) (message : OpenMessage) (heard : Word)
    (old : Card) → OpensNothing act → (word_done act asked message heard old).opened ≡ none
unfolding word_done
nothing_opened asked message heard old no_opening_ignore = refl
nothing_opened asked message heard old no_opening_store = refl
nothing_opened asked message heard old no_opening_check = refl
nothing_opened asked message heard old no_opening_second = refl
nothing_opened asked message heard old no_opening_status = refl
nothing_opened asked message heard old no_opening_fault = refl

module _ (heard : Word) (unjoined : heard.joined ≡ false) where
  no_opening_stage : (stage : Stage) (station : ℕ) (asked : Asked) (message : OpenMessage)
      → OpensNothing (word_in_stage stage station asked message heard)
  unfolding in_data in_second_command in_awaiting_status
  no_opening_stage Data station asked message = rw unjoined (search no_opening depth 6)
  no_opening_stage SecondCommand station asked message = search no_opening depth 6
  no_opening_stage AwaitingStatus station asked message = search no_opening depth 6
  no_opening_stage Skipping station asked message = no_opening_ignore

  no_opening_word : (station flags : ℕ) (asked : Asked) (message : OpenMessage)
      → own_command station flags heard ≡ false
      → OpensNothing (on_word station flags asked message heard)
  unfolding on_word
  no_opening_word station flags asked message other =
      rw other
      (no_opening_if {test = not (beq heard.line message.line)}
      (λ elsewhere. no_opening_ignore)
      (λ here. no_opening_stage message.stage station asked message))

  -- an unjoined word that opens a message is an own command ..
  opening_is_own : (message : Option OpenMessage) (old : Card)
      → (word_met message heard old).opened ≢ none
      → own_command old.core.station old.core.flags heard ≡ true
  opening_is_own message old opening =
      go (own_command old.core.station old.core.flags heard) refl message opening
    where
      go : (own : Bool) → own_command old.core.station old.core.flags heard ≡ own
          → (message : Option OpenMessage) → (word_met message heard old).opened ≢ none
          → own_command old.core.station old.core.flags heard ≡ true
      go true is message opening = is
      go false is None opening = absurd (opening (rw is refl))
      go false is (Some message) opening =
          absurd (opening
          (nothing_opened (asks message) message heard old
          (no_opening_word old.core.station old.core.flags (asks message)
          message is)))

  pub unjoined_is_own : (old : Card) → (step (word heard) old).opened ≢ none
      → own_command old.core.station old.core.flags heard ≡ true
  unfolding step word_step
  unjoined_is_own old opening = opening_is_own old.core.message old opening

-- .. and an own command that is unjoined supersedes
pub unjoined_supersedes : (station flags : ℕ) (asked : Asked) (message : OpenMessage)
    (heard : Word) → own_command station flags heard ≡ true → heard.joined ≡ false
    → on_word station flags asked message heard ≡ Supersede
unfolding on_word
unjoined_supersedes station flags asked message heard own unjoined =
    simp (own, unjoined, or-true)
