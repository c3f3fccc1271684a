-- Silence: what it does to an open message is decided here and done in `SilenceStep`.
-- Definitions only. Assumes nothing.
use Rattle.std.specs.Prelude.{Bool, cond, not, ltb}
use Rattle.std.specs.Bool.{beq}
use Rattle.message.specs.declared.asked.Asked.{Asked}
use Rattle.message.specs.declared.judge.SilenceAct.{SilenceAct}
use Rattle.message.specs.declared.judge.SilenceAct.TheVariants.{
  Ignore,
  AwaitStatus,
  Fault,
  End,
}
use Rattle.message.specs.declared.state.Stage.{Stage}
use Rattle.message.specs.declared.state.Stage.TheVariants.{
  Data,
  SecondCommand,
  AwaitingStatus,
  Skipping,
}
use Rattle.message.specs.declared.state.OpenMessage.{OpenMessage}

-- after a second command, await status; a further silence 2; words short 3; else the message ends
-- sound
abbrev pub silence_in_stage : Stage → Asked → OpenMessage → SilenceAct
silence_in_stage Data asked message =
    cond (ltb message.taken asked.takes) (Fault 3) End
silence_in_stage SecondCommand asked message = AwaitStatus
silence_in_stage AwaitingStatus asked message = Fault 2
silence_in_stage Skipping asked message = End

-- silence elsewhere does nothing
unfoldable pub on_silence : Asked → OpenMessage → Bool → SilenceAct
on_silence asked message line =
    cond (not (beq line message.line)) Ignore
    (silence_in_stage message.stage asked message)
