-- Closing, faults, and the sound end. Definitions only. Assumes nothing.
use Rattle.std.specs.Prelude.{Bool, true, false, cond, not, ◌&&◌, ◌||◌, List, ℕ, eqb, None, is_some}
use Rattle.bus.specs.Command.{is_broadcast}
use Rattle.bus.specs.Status.{with_error}
use Rattle.card.specs.declared.place.Block.{Block}
use Rattle.card.specs.declared.place.Cell.{Cell}
use Rattle.card.specs.Memory.{with_service, with_link}
use Rattle.card.specs.StateWord.{state_word}
use Rattle.card.specs.Time.{ticks_of}
use Rattle.queue.specs.declared.Queue.{Queue}
use Rattle.queue.specs.Queue.{with_joined}
use Rattle.message.specs.declared.asked.Asked.{Asked}
use Rattle.message.specs.declared.state.OpenMessage.{OpenMessage}
use Rattle.message.specs.Asked.{keeps_back}
use Rattle.terminal.specs.declared.state.Shut.{Shut}
use Rattle.terminal.specs.declared.state.Core.{Core}
use Rattle.terminal.specs.declared.state.Reply.{Reply}
use Rattle.terminal.specs.declared.state.Reply.TheVariants.{Silent, Status, Words, Last}
use Rattle.terminal.specs.State.{Card, card, with_status, with_switches, with_message, with_core}

-- ---- the state word

-- words stored, and words that a reply sends: none where they are kept back
abbrev pub unless_busy : Asked → OpenMessage → ℕ → ℕ
unless_busy asked message words = cond (keeps_back asked message) 0 words

unfoldable pub state_of : ℕ → ℕ → OpenMessage → ℕ
state_of code words message =
    state_word (record {
      line = message.line;
      fault = not (eqb code 0);
      broadcast = is_broadcast message.command;
      second = is_some message.second;
      busy = message.busy;
      code = code;
      words = words;
    })

-- ---- closing

-- cell 63 into the opening's table cell, unless the host has set the table block since
abbrev pub linked : Bool → Block → Block → Cell → List ℕ → List ℕ
linked moved block table cell ram = cond moved ram (with_link ram block table cell)

-- 58 to 61, then the link
unfoldable pub closed_ram : Asked → ℕ → ℕ → OpenMessage → List ℕ → List ℕ
closed_ram asked state time message ram =
    cond asked.block
    (linked message.moved message.block message.table asked.cell
    (with_service ram message.block state time (ticks_of message.opened time)))
    ram

-- then, if wanted, the block number joins the queue
unfoldable pub closed_queue : Asked → OpenMessage → Queue → Queue
closed_queue asked message queue =
    cond (asked.block && message.queued) (with_joined message.block.0 queue) queue

unfoldable pub closing : Asked → ℕ → ℕ → OpenMessage → Card → Card
closing asked state time message old =
    card (with_message None old.core)
    (closed_queue asked message old.queue)
    (closed_ram asked state time message old.ram)

-- a fault closes silently and sets message error
unfoldable pub faulted : Asked → ℕ → ℕ → OpenMessage → Card → Card
faulted asked code time message old =
    closing asked (state_of code (unless_busy asked message message.taken) message) time message
    (with_core (with_status (with_error old.core.status) old.core) old)

-- ---- the sound end

-- a reply, unless broadcast or shut
unfoldable pub replies : Core → OpenMessage → Bool
replies core message =
    not (is_broadcast message.command)
    && not (cond message.line core.shut.b core.shut.a)

-- status, then words sent: none, the last command, or those of the block
unfoldable pub reply_of : Asked → Core → OpenMessage → Reply
reply_of asked core message =
    cond (not (replies core message)) Silent
    (cond asked.last (Last core.status core.last)
    (cond (eqb (unless_busy asked message asked.sends) 0) (Status core.status)
    (Words core.status message.block asked.sends)))

-- 4 shuts and 5 opens the other line; 6 sets and 7 clears inhibit; 8 clears both shuts and inhibit
unfoldable pub switched_shut : ℕ → Bool → Shut → Shut
switched_shut code line shut =
    record {
      a =
          cond (eqb code 8 || (eqb code 5 && line)) false
          (cond (eqb code 4 && line) true shut.a);
      b =
          cond (eqb code 8 || (eqb code 5 && not line)) false
          (cond (eqb code 4 && not line) true shut.b);
    }

unfoldable pub switched_inhibit : ℕ → Bool → Bool
switched_inhibit code inhibit =
    cond (eqb code 8 || eqb code 7) false (cond (eqb code 6) true inhibit)

abbrev pub switched : ℕ → Bool → Core → Core
switched code line core =
    with_switches (switched_shut code line core.shut) (switched_inhibit code core.inhibit) core

-- the data words stored, or held by the reply given
unfoldable pub end_words : Asked → Core → OpenMessage → ℕ
end_words asked core message =
    unless_busy asked message
    (cond (eqb asked.takes 0) (cond (replies core message) asked.sends 0) message.taken)

unfoldable pub ended : Asked → ℕ → OpenMessage → Card → Card
ended asked time message old =
    closing asked (state_of 0 (end_words asked old.core message) message) time message
    (with_core (switched asked.switch message.line old.core) old)
