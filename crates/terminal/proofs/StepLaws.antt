-- A word and a silence meet what is open. Assumes nothing.
use mathlib.Core.Path.{◌≡◌, ap}
use mathlib.Core.Bool.{Bool}
use Prim.Native.Nat.{ℕ}
use Rattle.std.proofs.Common.{Option}
use Rattle.bus.specs.declared.word.Word.{Word}
use Rattle.message.specs.declared.state.OpenMessage.{OpenMessage}
use Rattle.terminal.specs.State.{Card}
use Rattle.terminal.specs.WordStep.{word_met, word_step}
use Rattle.terminal.specs.SilenceStep.{silence_met, silence_step}

module _ (message : Option OpenMessage) (old : Card) (is : old.core.message ≡ message) where
  pub word_meets : (word : Word) → word_step word old ≡ word_met message word old
  unfolding word_step
  word_meets word = ap (λ (met : Option OpenMessage). word_met met word old) is

  pub silence_meets : (line : Bool) (time : ℕ)
      → silence_step line time old ≡ silence_met message line time old
  unfolding silence_step
  silence_meets line time = ap (λ (met : Option OpenMessage). silence_met met line time old) is
