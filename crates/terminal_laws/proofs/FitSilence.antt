-- A silence keeps the card fit, `fit_silence`. Assumes nothing.
use Rattle.std.proofs.Common.{None, Option, Some}
use mathlib.Core.Path.{◌≡◌}
use mathlib.Core.Bool.{Bool, true, false, cond, not, beq}
use Prim.Native.Nat.{ℕ}
use lib.Dec.{ltb}
use Rattle.card.specs.Memory.{card_blocks}
use Rattle.message.specs.declared.asked.Asked.{Asked}
use Rattle.message.specs.declared.judge.SilenceAct.TheVariants.{Ignore, Fault, End}
use Rattle.message.specs.declared.state.Stage.{Stage}
use Rattle.message.specs.declared.state.Stage.TheVariants.{
  Data,
  SecondCommand,
  AwaitingStatus,
  Skipping,
}
use Rattle.message.specs.declared.state.OpenMessage.{OpenMessage}
use Rattle.message.specs.Asked.{asks}
use Rattle.message.specs.Silence.{silence_in_stage, on_silence}
use Rattle.message.specs.Fitness.{fit_message}
use Rattle.terminal.specs.State.{Card}
use Rattle.terminal.specs.SilenceStep.{silence_done, silence_met}
use Rattle.terminal_laws.proofs.FitParts.{InStage, FitOpen, fit_open_parts, FitCard}
use Rattle.terminal_laws.proofs.FitMessage.{fits_awaiting}
use Rattle.terminal_laws.proofs.FitChanges.{fit_going_on, fit_faulted, fit_ended}

module _ (message : OpenMessage) (time : ℕ) (old : Card)
    (parts : FitOpen old.core.station message) (fit : FitCard old) where
  abbrev asked : Asked
  asked = asks message

  -- the silence is decided by the stage ..
  fit_silence_in_stage : (stage : Stage) → InStage stage message
      → FitCard (silence_done (silence_in_stage stage asked message) asked message time old).card
  unfolding silence_done
  fit_silence_in_stage Data reached = go (ltb message.taken asked.takes)
    where
      go : (short : Bool)
          → FitCard (silence_done (cond short (Fault 3) End) asked message time old).card
      go true = fit_faulted asked 3 time message old parts.block fit
      go false = fit_ended asked time message old parts.block fit
  fit_silence_in_stage SecondCommand reached =
      fit_going_on _ _ old (fits_awaiting old.core.station message parts reached) fit
  fit_silence_in_stage AwaitingStatus reached =
      fit_faulted asked 2 time message old parts.block fit
  fit_silence_in_stage Skipping reached = fit_ended asked time message old parts.block fit

  -- .. where it is on the message's line
  fit_silence_open : (line : Bool)
      → FitCard (silence_done (on_silence asked message line) asked message time old).card
  unfolding silence_done on_silence
  fit_silence_open line = go (not (beq line message.line))
    where
      go : (elsewhere : Bool)
          → FitCard (silence_done (cond elsewhere Ignore
          (silence_in_stage message.stage asked message)) asked message time old).card
      go true = fit
      go false = fit_silence_in_stage message.stage parts.stage

-- a silence, whether or not a message is open
pub fit_silence : (message : Option OpenMessage) (line : Bool) (time : ℕ) (old : Card)
    → fit_message card_blocks message old.core.station ≡ true → FitCard old
    → FitCard (silence_met message line time old).card
fit_silence None line time old fit_message_lem fit = fit
fit_silence (Some message) line time old fit_message_lem fit =
    fit_silence_open message time old (fit_open_parts old.core.station message fit_message_lem) fit
    line
