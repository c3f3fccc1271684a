-- The judge of what comes back, from the first silence on: K10's rules 4.1, 4.3 to 4.7, and rule 5
-- behind the first silence. Definitions only. Assumes nothing.
use Rattle.std.specs.Prelude.{Bool, true, false, cond, not, ◌||◌, ℕ, ◌+◌, ◌%◌, eqb, leb, ltb}
use Rattle.bus.specs.declared.word.Word.{Word}
use Rattle.bus.specs.Command.{address_of}
use Rattle.formats.specs.Row.{status_cell, reply_cell, last_cell}
use Rattle.exchange.specs.declared.order.Order.{Order}
use Rattle.exchange.specs.declared.state.Stage.{Stage}
use Rattle.exchange.specs.declared.state.Stage.TheVariants.{
  Awaiting,
  Reply,
  AwaitingLast,
  Ended,
}
use Rattle.exchange.specs.declared.state.Exchange.{Exchange}
use Rattle.exchange.specs.declared.judge.WordAct.{WordAct}
use Rattle.exchange.specs.declared.judge.WordAct.TheVariants.{Take}
use Rattle.exchange.specs.declared.judge.WordAct.TheVariants as heard
use Rattle.exchange.specs.declared.judge.SilenceAct.{SilenceAct}
use Rattle.exchange.specs.declared.judge.SilenceAct.TheVariants.{GoOn, End}
use Rattle.exchange.specs.declared.judge.SilenceAct.TheVariants as silent
use Rattle.exchange.specs.Order.{format_for, awaited, awaited_last}

-- so far the answer has come
abbrev pub exchange_of : Stage → ℕ → Bool → Exchange
exchange_of stage taken mark = record { stage = stage; taken = taken; mark = mark }

-- nothing has come back yet
abbrev pub at_first : Exchange
at_first = exchange_of Awaiting 0 false

-- ---- a word

-- any of bits 10 to 0 of a status sets the mark
abbrev pub is_marked : ℕ → Bool
is_marked status = not (eqb (status % 2048) 0)

-- a status of this station is due, and then this stage begins: 6 data sync, 5 another address
unfoldable pub status_heard : ℕ → ℕ → Stage → Exchange → Word → WordAct
status_heard cell station next exchange word =
    cond (not word.sync) (heard.Fault 6)
    (cond (not (eqb (address_of word.value) station)) (heard.Fault 5)
    (Take cell
    (exchange_of next exchange.taken (exchange.mark || is_marked word.value))))

-- data words are due, or all are in: 3 not joined, 4 more than wanted, 6 command sync
unfoldable pub data_heard : Bool → ℕ → Exchange → Word → WordAct
data_heard all_in first exchange word =
    cond (not word.joined) (heard.Fault 3)
    (cond all_in (heard.Fault 4)
    (cond word.sync (heard.Fault 6)
    (Take (first + exchange.taken)
    (exchange_of exchange.stage (exchange.taken + 1) exchange.mark))))

unfoldable pub word_heard : Stage → Order → Exchange → Word → WordAct
word_heard Awaiting order exchange word =
    status_heard (status_cell (format_for order)) (awaited order) Reply exchange word
word_heard Reply order exchange word =
    data_heard (leb (format_for order).reply exchange.taken) (reply_cell (format_for order))
    exchange word
word_heard AwaitingLast order exchange word =
    status_heard (last_cell (format_for order)) (awaited_last order) Ended exchange word
word_heard Ended order exchange word =
    data_heard true (reply_cell (format_for order)) exchange word

-- a word on the message's line: 1 unsound
unfoldable pub on_word : Order → Exchange → Word → WordAct
on_word order exchange word =
    cond (not word.sound) (heard.Fault 1) (word_heard exchange.stage order exchange word)

-- ---- a silence: 2 no status, 3 words missing

unfoldable pub silence_heard : Stage → Order → Exchange → SilenceAct
silence_heard Awaiting order exchange = silent.Fault 2
silence_heard Reply order exchange =
    cond (ltb exchange.taken (format_for order).reply) (silent.Fault 3)
    (cond (format_for order).last
    (GoOn (exchange_of AwaitingLast exchange.taken exchange.mark))
    End)
silence_heard AwaitingLast order exchange = silent.Fault 2
silence_heard Ended order exchange = End

-- a silence on the message's line
abbrev pub on_silence : Order → Exchange → SilenceAct
on_silence order exchange = silence_heard exchange.stage order exchange
