-- A word: what rules 1 to 8 decide is done. Definitions only. Assumes nothing.
use Rattle.std.specs.Prelude.{cond, None, Option, Some}
use Rattle.bus.specs.declared.word.Word.{Word}
use Rattle.message.specs.declared.asked.Asked.{Asked}
use Rattle.message.specs.declared.judge.WordAct.{WordAct}
use Rattle.message.specs.declared.judge.WordAct.TheVariants.{
  Ignore,
  Store,
  Check,
  TakeSecond,
  TakeStatus,
  Fault,
  Supersede,
  Drop,
}
use Rattle.message.specs.declared.state.Stage.TheVariants.{Data, SecondCommand}
use Rattle.message.specs.declared.state.OpenMessage.{OpenMessage}
use Rattle.message.specs.Message.{further}
use Rattle.message.specs.Asked.{asks}
use Rattle.message.specs.Words.{own_command}
use Rattle.message.specs.Words.{on_word}
use Rattle.terminal.specs.State.{Card}
use Rattle.terminal.specs.Closing.{faulted}
use Rattle.terminal.specs.Event.{Outcome, quietly, opens, goes_on}
use Rattle.terminal.specs.Row.{word_stored}

unfoldable pub word_done : WordAct → Asked → OpenMessage → Word → Card → Outcome
word_done Ignore asked message word old = quietly old
word_done (Store taken) asked message word old =
    quietly (word_stored word.value taken message old)
word_done (Check taken) asked message word old =
    goes_on (further Data message.second taken message) old
word_done (TakeSecond value) asked message word old =
    goes_on (further SecondCommand (Some value) message.taken message) old
word_done TakeStatus asked message word old =
    goes_on (further Data message.second message.taken message) old
word_done (Fault code) asked message word old =
    quietly (faulted asked code word.time message old)
word_done Supersede asked message word old =
    opens word (faulted asked 7 word.time message old)
word_done Drop asked message word old = opens word old

-- with nothing open, any own command opens, joined or not
abbrev pub word_met : Option OpenMessage → Word → Card → Outcome
word_met None word old =
    cond (own_command old.core.station old.core.flags word) (opens word old) (quietly old)
word_met (Some message) word old =
    word_done
    (on_word old.core.station old.core.flags (asks message) message word)
    (asks message) message word old

unfoldable pub word_step : Word → Card → Outcome
word_step word old = word_met old.core.message word old
