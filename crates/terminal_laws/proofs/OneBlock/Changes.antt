-- What both runs do to related cards leaves them related: going on, closing, faults, the sound end,
-- opening. Assumes nothing.
use Rattle.std.proofs.Common.{Option, Some}
use mathlib.Core.Path.{◌≡◌, refl, sym, subst}
use mathlib.Core.Bool.{Bool, true, false, cond}
use mathlib.Core.List.{List}
use Prim.Native.Nat.{ℕ}
use Rattle.bus.specs.declared.kind.Kind.{Kind}
use Rattle.bus.specs.declared.kind.Kind.TheVariants.{
  Receive,
  Transmit,
  ModeStatus,
  ModeLast,
  ModeSwitch,
  ModeSend,
  ModeTake,
  ModeReply,
  Illegal,
}
use Rattle.bus.specs.declared.word.Word.{Word}
use Rattle.bus.specs.Kind.{kind_of}
use Rattle.bus.specs.Status.{with_error}
use Rattle.card.specs.declared.place.Block.{Block}
use Rattle.card.specs.Memory.{with_service}
use Rattle.card.specs.Time.{ticks_of}
use Rattle.queue.specs.declared.Queue.{Queue}
use Rattle.message.specs.declared.asked.Asked.{Asked}
use Rattle.message.specs.declared.state.OpenMessage.{OpenMessage}
use Rattle.message.specs.Asked.{asked_by, asked_of}
use Rattle.message.proofs.AskedBounds.{cell_in_table}
use Rattle.terminal.specs.declared.state.Core.{Core}
use Rattle.terminal.specs.State.{Card, card, with_status, with_switches, with_last, with_message}
use Rattle.terminal.specs.Opening.{
  opened_message,
  opened_status,
  opened_core,
  table_word_at,
  opening,
}
use Rattle.terminal.specs.Closing.{
  linked,
  closed_ram,
  closing,
  faulted,
  replies,
  end_words,
  ended,
}
use Rattle.terminal.specs.Event.{opened_by}
use Rattle.terminal_laws.specs.OneBlock.{SameQueue, still_before}
use Rattle.terminal_laws.proofs.OneBlock.Agreement.{
  Agree,
  both_service,
  both_linked,
  same_table_word,
}
use Rattle.terminal_laws.proofs.OneBlock.Queues.{same_closed}
use Rattle.terminal_laws.proofs.OneBlock.Relation.{
  Asks,
  asks_status,
  asks_last,
  asking,
  Statuses,
  equal,
  but_error,
  statuses_faulted,
  statuses_idle,
  Related,
}

-- ---- memory

-- a closing
pub both_closed : {Spent : Block → Type 0} {ram other : List ℕ} (asked : Asked) (state time : ℕ)
    (message : OpenMessage) → Agree Spent ram other
    → Agree Spent (closed_ram asked state time message ram)
    (closed_ram asked state time message other)
unfolding closed_ram
both_closed {Spent} {ram} {other} asked state time message agree = go asked.block
  where
    go : (block : Bool) → Agree Spent
        (cond block
        (linked message.moved message.block message.table asked.cell
        (with_service ram message.block state time (ticks_of message.opened time)))
        ram)
        (cond block
        (linked message.moved message.block message.table asked.cell
        (with_service other message.block state time (ticks_of message.opened time)))
        other)
    go true =
        both_linked message.moved message.block message.table asked.cell
        (both_service message.block state time (ticks_of message.opened time) agree)
    go false = agree

-- ---- the remembered status at an opening

-- a message of another command makes it anew, the same in both
statuses_opened : {before : Bool} {message : Option OpenMessage}
    (kind : Kind) (table_word : ℕ) (word : Word)
    (core : Core) (status : ℕ) → kind_of word.value ≡ kind
    → Statuses before message core.status status
    → Statuses (still_before before (opened_by (asked_by kind word.value)))
    (Some (opened_message (asked_by kind word.value) table_word word core))
    (opened_status (asked_by kind word.value) table_word word core)
    (opened_status (asked_by kind word.value) table_word word (with_status status core))
unfolding still_before opened_by asked_by opened_status opened_message with_status
statuses_opened Receive table_word word core status is statuses = equal
statuses_opened Transmit table_word word core status is statuses = equal
statuses_opened ModeStatus table_word word core status is equal = equal
statuses_opened ModeStatus table_word word core status is (but_error asks same) =
    but_error (asking (subst Asks (sym is) asks_status)) same
statuses_opened ModeLast table_word word core status is equal = equal
statuses_opened ModeLast table_word word core status is (but_error asks same) =
    but_error (asking (subst Asks (sym is) asks_last)) same
statuses_opened ModeSwitch table_word word core status is statuses = equal
statuses_opened ModeSend table_word word core status is statuses = equal
statuses_opened ModeTake table_word word core status is statuses = equal
statuses_opened ModeReply table_word word core status is statuses = equal
statuses_opened Illegal table_word word core status is statuses = equal

-- ---- on a card, and on one with another remembered status, a queue that is the same, and a memory
-- that agrees

module _ {Spent : Block → Type 0} {before : Bool} (core : Core) (status : ℕ)
    (queue queue' : Queue) (queues : SameQueue queue queue')
    (ram other : List ℕ) (agree : Agree Spent ram other) where
  pub related_faulted : (asked : Asked) (code time : ℕ) (message : OpenMessage)
      → Statuses before (Some message) core.status status
      → Related Spent before (faulted asked code time message (card core queue ram))
      (faulted asked code time message (card (with_status status core) queue' other))
  unfolding faulted closing with_status with_message
  related_faulted asked code time message statuses =
      record {
        status = with_error status;
        core = refl;
        queue = same_closed queues asked message;
        statuses = statuses_faulted statuses;
        cells = both_closed asked _ time message agree;
      }

  pub related_ended : (asked : Asked) (time : ℕ) (message : OpenMessage)
      → Statuses before (Some message) core.status status
      → Related Spent before (ended asked time message (card core queue ram))
      (ended asked time message (card (with_status status core) queue' other))
  unfolding ended closing end_words replies with_switches with_status with_message
  related_ended asked time message statuses =
      record {
        status = status;
        core = refl;
        queue = same_closed queues asked message;
        statuses = statuses_idle statuses;
        cells = both_closed asked _ time message agree;
      }

  related_opened : {message : Option OpenMessage} (word : Word) → (Spent core.table → ⊥)
      → Statuses before message core.status status
      → Related Spent (still_before before (opened_by (asked_of word.value)))
      (opening word (card core queue ram))
      (opening word (card (with_status status core) queue' other))
  unfolding opening opened_core opened_message with_status with_last with_message
  related_opened word unspent statuses =
      let asked = asked_of word.value in
      let table_word = table_word_at word core ram in
      record {
        status = opened_status asked table_word word (with_status status core);
        core =
            rw (same_table_word core.table asked.cell unspent
            (cell_in_table word.value) agree) refl;
        queue = queues;
        statuses = statuses_opened (kind_of word.value) table_word word core status refl statuses;
        cells = agree;
      }

-- an opening, of related cards
pub related_opening : {Spent : Block → Type 0} {before : Bool} {here there : Card} (word : Word)
    → (Spent here.core.table → ⊥) → Related Spent before here there
    → Related Spent (still_before before (opened_by (asked_of word.value)))
    (opening word here) (opening word there)
related_opening {Spent} {before} {here} {there} word unspent related =
    subst
    (λ (core : Core). Related Spent (still_before before (opened_by (asked_of word.value)))
    (opening word here) (opening word (card core there.queue there.ram)))
    (sym related.core)
    (related_opened here.core related.status here.queue there.queue related.queue
    here.ram there.ram related.cells word unspent related.statuses)
