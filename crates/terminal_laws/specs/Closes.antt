-- Which events close the open message, and what becomes of it otherwise. Definitions only. Assumes
-- nothing.
use Rattle.std.specs.Prelude.{◌≡◌, Bool, true, ℕ, Some}
use Rattle.bus.specs.declared.word.Word.{Word}
use Rattle.message.specs.declared.judge.WordAct.{WordAct}
use Rattle.message.specs.declared.judge.WordAct.TheVariants as word_acts
use Rattle.message.specs.declared.judge.SilenceAct.{SilenceAct}
use Rattle.message.specs.declared.judge.SilenceAct.TheVariants as silence_acts
use Rattle.message.specs.declared.state.OpenMessage.{OpenMessage}
use Rattle.message.specs.Asked.{asks}
use Rattle.message.specs.Words.{on_word}
use Rattle.message.specs.Silence.{on_silence}
use Rattle.terminal.specs.State.{Card}
use Rattle.terminal.specs.Event.{Event, word, silence}
use Rattle.terminal.specs.Machine.{step}

-- the message is open on the card, and has a block
pub record OpenWithBlock (old : Card) (message : OpenMessage) : Type 0 where
  pub is_open : old.core.message ≡ Some message
  pub has_block : (asks message).block ≡ true

-- what a word is to the message, and what a silence is
abbrev pub word_judged : Card → OpenMessage → Word → WordAct
word_judged old message heard =
    on_word old.core.station old.core.flags (asks message) message heard

abbrev pub silence_judged : OpenMessage → Bool → SilenceAct
silence_judged message line = on_silence (asks message) message line

-- a word closes the message by a fault, or supersedes it; a silence closes it by a fault, or as its
-- sound end. A broadcast message that is dropped does not close
pub data Closes (old : Card) (message : OpenMessage) : Event → Type 0 where
  by_fault : {heard : Word} {code : ℕ}
      → word_judged old message heard ≡ word_acts.Fault code → Closes old message (word heard)
  by_superseding : {heard : Word}
      → word_judged old message heard ≡ word_acts.Supersede → Closes old message (word heard)
  by_silence : {line : Bool} {time code : ℕ}
      → silence_judged message line ≡ silence_acts.Fault code
      → Closes old message (silence line time)
  by_sound_end : {line : Bool} {time : ℕ}
      → silence_judged message line ≡ silence_acts.End → Closes old message (silence line time)

-- what is fixed at the opening
pub record SameOpening (message later : OpenMessage) : Type 0 where
  pub command : later.command ≡ message.command
  pub line : later.line ≡ message.line
  pub block : later.block ≡ message.block
  pub table : later.table ≡ message.table
  pub busy : later.busy ≡ message.busy
  pub queued : later.queued ≡ message.queued
  pub opened : later.opened ≡ message.opened

-- what becomes of the open message: it closes, or is dropped, or stays open as it was opened
pub data Becomes (old : Card) (message : OpenMessage) : Event → Type 0 where
  closed : {event : Event} → Closes old message event → Becomes old message event
  dropped : {heard : Word}
      → word_judged old message heard ≡ word_acts.Drop → Becomes old message (word heard)
  stays : {event : Event} {later : OpenMessage}
      → (step event old).card.core.message ≡ Some later → SameOpening message later
      → Becomes old message event
