-- The common tail: two related runs that go on with the same events stay related, and every outcome
-- is the same. For any set of spent blocks that are spared. Assumes nothing.
use Rattle.std.proofs.Common.{None, Option, Some}
use mathlib.Core.Path.{◌≡◌, refl, sym, subst}
use mathlib.Core.Bool.{Bool, true, false, cond}
use mathlib.Core.List.{List, [], ◌∷◌}
use Prim.Native.Nat.{ℕ}
use Rattle.bus.specs.declared.word.Word.{Word}
use Rattle.card.specs.declared.place.Block.{Block}
use Rattle.queue.specs.declared.Queue.{Queue}
use Rattle.queue.specs.Queue.{oldest_word}
use Rattle.message.specs.declared.judge.WordAct.{WordAct}
use Rattle.message.specs.declared.judge.WordAct.TheVariants.{
  Ignore,
  Store,
  Check,
  TakeSecond,
  TakeStatus,
  Fault,
  Supersede,
  Drop,
}
use Rattle.message.specs.declared.judge.SilenceAct.{SilenceAct}
use Rattle.message.specs.declared.judge.SilenceAct.TheVariants.{
  Ignore as IgnoreSilence,
  AwaitStatus,
  Fault as FaultSilence,
  End,
}
use Rattle.message.specs.declared.state.Stage.{Stage}
use Rattle.message.specs.declared.state.Stage.TheVariants.{Data, SecondCommand, AwaitingStatus}
use Rattle.message.specs.declared.state.OpenMessage.{OpenMessage}
use Rattle.message.specs.Message.{further, moved_message}
use Rattle.message.specs.Asked.{asks}
use Rattle.message.specs.Words.{own_command, on_word}
use Rattle.message.specs.Silence.{on_silence}
use Rattle.terminal.specs.declared.state.Core.{Core}
use Rattle.terminal.specs.declared.state.Reply.TheVariants.{Words}
use Rattle.terminal.specs.declared.state.Answer.TheVariants.{Replied}
use Rattle.terminal.specs.State.{Card, card, with_table, with_flags, with_status, with_message}
use Rattle.terminal.specs.Closing.{faulted, closing}
use Rattle.terminal.specs.Event.{
  Event,
  word,
  silence,
  read_queue,
  host_write,
  move_table,
  set_flags,
  queue_word,
  quietly,
  opens,
  goes_on,
}
use Rattle.terminal.specs.WordStep.{word_done, word_met, word_step}
use Rattle.terminal.specs.SilenceStep.{silence_done, silence_met, silence_step}
use Rattle.terminal.specs.Machine.{
  read_queue_step,
  host_write_step,
  move_table_step,
  set_flags_step,
  step,
  run,
}
use Rattle.terminal_laws.specs.OneBlock.{
  SameQueue,
  still_before,
  SameAnswer,
  same,
  SameOutcome,
  Later,
  Spared,
}
use Rattle.terminal_laws.proofs.OneBlock.Agreement.{Agree, both_cell, both_words, same_part}
use Rattle.terminal_laws.proofs.OneBlock.Queues.{same_oldest, same_without}
use Rattle.terminal_laws.proofs.OneBlock.Relation.{
  Statuses,
  statuses_further,
  statuses_moved,
  Related,
  related_alike,
  StillRelated,
}
use Rattle.terminal_laws.proofs.OneBlock.Changes.{
  related_faulted,
  related_ended,
  related_opening,
}
use Rattle.terminal_laws.proofs.OneBlock.Answers.{same_reply, sent_at_most}

-- ---- one event, on a card and on one with another remembered status, a queue that is the same,
-- and a memory that agrees

module _ {Spent : Block → Type 0} {before : Bool} (core : Core) (status : ℕ)
    (queue queue' : Queue) (queues : SameQueue queue queue')
    (ram other : List ℕ) (agree : Agree Spent ram other) (unspent : Spent core.table → ⊥)
    (statuses : Statuses before core.message core.status status) where
  abbrev here : Card
  here = card core queue ram

  abbrev there : Card
  there = card (with_status status core) queue' other

  -- the cards after the event are those of another core, with memories that agree still; nothing
  -- comes back and nothing opens
  still : (message : Option OpenMessage) (new : Core) (cells cells' : List ℕ)
      → Statuses before new.message new.status status → Agree Spent cells cells'
      → StillRelated Spent before message (quietly (card new queue cells))
      (quietly (card (with_status status new) queue' cells'))
  unfolding still_before
  still message new cells cells' remembered agree' =
      record {
        answer = same;
        related =
            record {
              status = status;
              core = refl;
              queue = queues;
              statuses = remembered;
              cells = agree';
            };
      }

  abbrev now : Related Spent before here there
  now =
      record { status = status; core = refl; queue = queues; statuses = statuses; cells = agree }

  still_quietly : (message : Option OpenMessage)
      → StillRelated Spent before message (quietly here) (quietly there)
  still_quietly message = still message core ram other statuses agree

  -- the open message goes on
  still_going_on : (stage : Stage) (second : Option ℕ) (taken : ℕ) (message : OpenMessage)
      → Statuses before (Some message) core.status status
      → StillRelated Spent before (Some message)
      (goes_on (further stage second taken message) here)
      (goes_on (further stage second taken message) there)
  unfolding with_status with_message
  still_going_on stage second taken message remembered =
      still (Some message) (with_message (Some (further stage second taken message)) core)
      ram other (statuses_further stage second taken remembered) agree

  -- each act of a word
  still_word_done : (act : WordAct) (message : OpenMessage) (heard : Word)
      → Statuses before (Some message) core.status status
      → StillRelated Spent before (Some message)
      (word_done act (asks message) message heard here)
      (word_done act (asks message) message heard there)
  unfolding word_done still_before with_status with_message faulted closing
  still_word_done Ignore message heard remembered = still_quietly (Some message)
  still_word_done (Store taken) message heard remembered =
      still (Some message) (with_message (Some (further Data message.second taken message)) core)
      _ _ (statuses_further _ _ _ remembered) (both_cell _ _ _ agree)
  still_word_done (Check taken) message heard remembered =
      still_going_on Data message.second taken message remembered
  still_word_done (TakeSecond value) message heard remembered =
      still_going_on SecondCommand (Some value) message.taken message remembered
  still_word_done TakeStatus message heard remembered =
      still_going_on Data message.second message.taken message remembered
  still_word_done (Fault code) message heard remembered =
      record {
        answer = same;
        related =
            related_faulted core status queue queue' queues ram other agree (asks message) code
            heard.time message remembered;
      }
  still_word_done Supersede message heard remembered =
      record {
        answer = same;
        related =
            related_opening heard unspent
            (related_faulted core status queue queue' queues ram other agree (asks message) 7
            heard.time message remembered);
      }
  still_word_done Drop message heard remembered =
      record { answer = same; related = related_opening heard unspent now }

  still_own : (own : Bool) (heard : Word)
      → StillRelated Spent before None (cond own (opens heard here) (quietly here))
      (cond own (opens heard there) (quietly there))
  still_own true heard = record { answer = same; related = related_opening heard unspent now }
  still_own false heard = still_quietly None

  still_word : (message : Option OpenMessage) (heard : Word)
      → Statuses before message core.status status
      → StillRelated Spent before message (word_met message heard here)
      (word_met message heard there)
  unfolding with_status
  still_word None heard remembered =
      still_own (own_command core.station core.flags heard) heard
  still_word (Some message) heard remembered =
      still_word_done
      (on_word core.station core.flags (asks message) message heard)
      message heard remembered

  -- each act of a silence
  still_silence_done : (act : SilenceAct) (message : OpenMessage) (time : ℕ)
      → Statuses before (Some message) core.status status
      → StillRelated Spent before (Some message)
      (silence_done act (asks message) message time here)
      (silence_done act (asks message) message time there)
  unfolding silence_done still_before with_status with_message
  still_silence_done IgnoreSilence message time remembered = still_quietly (Some message)
  still_silence_done AwaitStatus message time remembered =
      still_going_on AwaitingStatus message.second message.taken message remembered
  still_silence_done (FaultSilence code) message time remembered =
      record {
        answer = same;
        related =
            related_faulted core status queue queue' queues ram other agree (asks message) code
            time message remembered;
      }
  still_silence_done End message time remembered =
      record {
        answer = same_reply message core status remembered;
        related =
            related_ended core status queue queue' queues ram other agree (asks message) time
            message remembered;
      }

  still_silence : (message : Option OpenMessage) (line : Bool) (time : ℕ)
      → Statuses before message core.status status
      → StillRelated Spent before message (silence_met message line time here)
      (silence_met message line time there)
  still_silence None line time remembered = still_quietly None
  still_silence (Some message) line time remembered =
      still_silence_done (on_silence (asks message) message line) message time remembered

  -- the oldest entry leaves the queue
  still_read : StillRelated Spent before core.message (read_queue_step here) (read_queue_step there)
  unfolding read_queue_step still_before
  still_read =
      record {
        answer =
            subst (λ (oldest : ℕ). SameAnswer before core.message
            (queue_word (oldest_word queue)) (queue_word oldest))
            (same_oldest queues) same;
        related =
            record {
              status = status;
              core = refl;
              queue = same_without queues;
              statuses = statuses;
              cells = agree;
            };
      }

  -- each event
  still_event : (event : Event)
      → StillRelated Spent before core.message (step event here) (step event there)
  unfolding step word_step silence_step host_write_step move_table_step set_flags_step
      with_status with_table with_flags with_message
  still_event (word heard) = still_word core.message heard statuses
  still_event (silence line time) = still_silence core.message line time statuses
  still_event read_queue = still_read
  still_event (host_write address words) =
      still core.message core _ _ statuses (both_words address words agree)
  still_event (move_table table) =
      still core.message (with_table table (with_message (moved_message core.message) core))
      ram other (statuses_moved statuses) agree
  still_event (set_flags flags) =
      still core.message (with_flags flags core) ram other statuses agree

-- ---- related cards

module _ {Spent : Block → Type 0} {before : Bool} {here there : Card} where
  pub still_step : (event : Event) → (Spent here.core.table → ⊥)
      → Related Spent before here there
      → StillRelated Spent before here.core.message (step event here) (step event there)
  still_step event unspent related =
      subst
      (λ (core : Core). StillRelated Spent before here.core.message (step event here)
      (step event (card core there.queue there.ram)))
      (sym related.core)
      (still_event here.core related.status here.queue there.queue related.queue
      here.ram there.ram related.cells unspent related.statuses event)

-- what the relation shows of an outcome
pub still_same : {Spent : Block → Type 0} {before : Bool}
    (message : Option OpenMessage) (event : Event)
    (here there : Card)
    → ((status : ℕ) (block : Block) (count : ℕ)
    → (step event here).answer ≡ Replied (Words status block count) → Spent block → ⊥)
    → StillRelated Spent before message (step event here) (step event there)
    → SameOutcome Spent before message (step event here) (step event there)
still_same message event here _ spared good =
    record {
      answer = good.answer;
      words = λ status block count is.
          same_part block count (spared status block count is)
          (sent_at_most event here status block count is) good.related.cells;
      cards = related_alike good.related;
    }

-- the same events, one after the other
pub tail : {Spent : Block → Type 0} {before : Bool} {here there : Card} (after : List Event)
    → Spared Spent after here → Related Spent before here there
    → Later Spent before after here there
unfolding Spared Later
tail [] spared related = tt
tail {before = before} {here = one} {there = other} (event ∷ after) spared related =
    let good = still_step event spared.0 related in (
      still_same one.core.message event one other spared.1 good,
      tail {before = still_before before (step event one).opened} after spared.2 good.related,
    )

-- ---- the relation after them, for what comes next

-- whether no other command has opened a message in these events
unfoldable pub still_before_all : Bool → List Event → Card → Bool
still_before_all before [] card = before
still_before_all before (event ∷ after) card =
    still_before_all (still_before before (step event card).opened) after (step event card).card

pub related_run : {Spent : Block → Type 0} {before : Bool} {here there : Card} (after : List Event)
    → Spared Spent after here → Related Spent before here there
    → Related Spent (still_before_all before after here) (run after here) (run after there)
unfolding Spared still_before_all run
related_run [] spared related = related
related_run {before = before} {here = one} (event ∷ after) spared related =
    related_run {before = still_before before (step event one).opened} after spared.2
    (still_step event spared.0 related).related
