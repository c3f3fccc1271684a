-- What happens to the terminal, and what comes of it. Definitions only. Assumes nothing.
use Rattle.std.specs.Prelude.{Bool, cond, List, ℕ, Some}
use Rattle.bus.specs.declared.word.Word.{Word}
use Rattle.card.specs.declared.place.Block.{Block}
use Rattle.message.specs.declared.asked.Asked.{Asked}
use Rattle.message.specs.declared.state.OpenMessage.{OpenMessage}
use Rattle.message.specs.Asked.{asked_of}
use Rattle.terminal.specs.declared.state.Reply.{Reply}
use Rattle.terminal.specs.declared.state.Answer.{Answer}
use Rattle.terminal.specs.declared.state.Answer.TheVariants.{Replied, QueueWord}
use Rattle.terminal.specs.declared.state.Reply.TheVariants.{Silent}
use Rattle.terminal.specs.State.{Card, with_message, with_core}
use Rattle.terminal.specs.Opening.{opening}

-- words and silences of the bus, and the host's actions
pub data Event : Type 0 where
  word : Word → Event
  silence : Bool → ℕ → Event
  read_queue : Event
  host_write : ℕ → List ℕ → Event
  move_table : Block → Event
  set_flags : ℕ → Event

-- what comes back: a reply on the bus, or the word of a queue read
abbrev pub replied : Reply → Answer
replied reply = Replied reply

abbrev pub queue_word : ℕ → Answer
queue_word word' = QueueWord word'

-- whether the event opened a message, and whether that kept the remembered status
pub data Opened : Type 0 where
  none : Opened
  keeping : Opened
  afresh : Opened

pub record Outcome : Type 0 where
  pub card : Card
  pub answer : Answer
  pub opened : Opened

-- what is seen of an outcome: the card and the answer
pub record Shown : Type 0 where
  pub card : Card
  pub answer : Answer

abbrev pub shown : Card → Answer → Shown
shown new answer = record { card = new; answer = answer }

abbrev pub seen : Outcome → Shown
seen outcome = shown outcome.card outcome.answer

-- nothing comes back and nothing opens
abbrev pub quietly : Card → Outcome
quietly new = record { card = new; answer = replied Silent; opened = none }

-- ---- the outcomes that come often

unfoldable pub opened_by : Asked → Opened
opened_by asked = cond asked.fresh afresh keeping

-- the word opens a message
abbrev pub opens : Word → Card → Outcome
opens word' old =
    record {
      card = opening word' old;
      answer = replied Silent;
      opened = opened_by (asked_of word'.value);
    }

-- the open message goes on
abbrev pub goes_on : OpenMessage → Card → Outcome
goes_on message old =
    quietly (with_core (with_message (Some message) old.core) old)
