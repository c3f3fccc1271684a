-- A silence: what it decides is done. Definitions only. Assumes nothing.
use Rattle.std.specs.Prelude.{Bool, ℕ, None, Option, Some}
use Rattle.message.specs.declared.asked.Asked.{Asked}
use Rattle.message.specs.declared.judge.SilenceAct.{SilenceAct}
use Rattle.message.specs.declared.judge.SilenceAct.TheVariants.{
  Ignore,
  AwaitStatus,
  Fault,
  End,
}
use Rattle.message.specs.declared.state.Stage.TheVariants.{AwaitingStatus}
use Rattle.message.specs.declared.state.OpenMessage.{OpenMessage}
use Rattle.message.specs.Message.{further}
use Rattle.message.specs.Asked.{asks}
use Rattle.message.specs.Silence.{on_silence}
use Rattle.terminal.specs.State.{Card}
use Rattle.terminal.specs.Closing.{faulted, ended, reply_of}
use Rattle.terminal.specs.Event.{Outcome, replied, none, quietly, goes_on}

unfoldable pub silence_done : SilenceAct → Asked → OpenMessage → ℕ → Card → Outcome
silence_done Ignore asked message time old = quietly old
silence_done AwaitStatus asked message time old =
    goes_on (further AwaitingStatus message.second message.taken message) old
silence_done (Fault code) asked message time old = quietly (faulted asked code time message old)
silence_done End asked message time old =
    record {
      card = ended asked time message old;
      answer = replied (reply_of asked old.core message);
      opened = none;
    }

-- with nothing open, silence does nothing
abbrev pub silence_met : Option OpenMessage → Bool → ℕ → Card → Outcome
silence_met None line time old = quietly old
silence_met (Some message) line time old =
    silence_done (on_silence (asks message) message line)
    (asks message) message time old

unfoldable pub silence_step : Bool → ℕ → Card → Outcome
silence_step line time old = silence_met old.core.message line time old
