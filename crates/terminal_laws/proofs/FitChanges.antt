-- The changes that a message brings keep the card fit: it goes on, `fit_going_on`, a word opens
-- one, `fit_opening`, and it closes with a fault or sound, `fit_faulted` and `fit_ended`.
-- Assumes nothing.
use Rattle.std.proofs.Common.{None, Option, Some}
use mathlib.Core.Path.{◌≡◌, refl}
use mathlib.Core.Bool.{Bool, true, false, cond, ◌&&◌}
use mathlib.Core.List.{List}
use Prim.Native.Nat.{ℕ, ◌<◌}
use Rattle.bus.specs.declared.word.Word.{Word}
use Rattle.card.specs.Memory.{card_blocks}
use Rattle.queue.specs.declared.Queue.{Queue}
use Rattle.queue.specs.Queue.{with_joined, fit_queue}
use Rattle.queue.proofs.FitLaws.{join_keeps_fit}
use Rattle.message.specs.declared.asked.Asked.{Asked}
use Rattle.message.specs.declared.state.OpenMessage.{OpenMessage}
use Rattle.message.specs.Fitness.{fit_message}
use Rattle.terminal.specs.declared.state.Core.{Core}
use Rattle.terminal.specs.State.{Card, card, with_status, with_last, with_switches, with_message}
use Rattle.terminal.specs.Opening.{opened_core, table_word_at, opened_as, opening}
use Rattle.terminal.specs.Closing.{closed_queue, closing, faulted, ended}
use Rattle.terminal.specs.Fitness.{fit_core}
use Rattle.terminal_laws.proofs.FitParts.{
  addressed,
  FitOpen,
  fit_open_whole,
  fit_core_parts,
  fit_core_whole,
  FitCard,
}
use Rattle.terminal_laws.proofs.FitMessage.{opened_fits}

-- ---- going on and opening

-- the core with another message, or none
fit_with_message : (message : Option OpenMessage) (core : Core)
    → fit_message card_blocks message core.station ≡ true
    → fit_core card_blocks core ≡ true → fit_core card_blocks (with_message message core) ≡ true
unfolding with_message
fit_with_message message core fit_message_lem fit =
    let parts = fit_core_parts core fit in
    fit_core_whole (record {
      station = parts.station;
      table = parts.table;
      flags = parts.flags;
      message = fit_message_lem;
    })

-- the open message goes on, whatever is in memory
pub fit_going_on : (message : OpenMessage) (ram : List ℕ) (old : Card)
    → FitOpen old.core.station message → FitCard old
    → FitCard (card (with_message (Some message) old.core) old.queue ram)
fit_going_on message ram old fit_message_lem fit =
    record {
      core = fit_with_message (Some message) old.core (fit_open_whole fit_message_lem) fit.core;
      queue = fit.queue;
    }

-- a command opens a message: its table block is the card's, which is fit
pub fit_opening : (word : Word) (old : Card)
    → addressed old.core.station word.value ≡ true → FitCard old → FitCard (opening word old)
unfolding opening opened_core with_message with_last with_status fit_core
fit_opening word old to_us fit =
    let core = old.core in
    let message = opened_as word core old.ram in
    let fit_message_lem : FitOpen core.station message =
    opened_fits (table_word_at word core old.ram) word core to_us
    (fit_core_parts core fit.core).table in
    record {
      core = fit_with_message (Some message) core (fit_open_whole fit_message_lem) fit.core;
      queue = fit.queue;
    }

-- ---- closing

-- the block joins the queue, or does not
fit_closed_queue : (joins : Bool) (block : ℕ) (queue : Queue) → block < card_blocks
    → fit_queue card_blocks queue ≡ true
    → fit_queue card_blocks (cond joins (with_joined block queue) queue) ≡ true
fit_closed_queue true block queue on_card fit = join_keeps_fit card_blocks block queue on_card fit
fit_closed_queue false block queue on_card fit = fit

-- nothing is open any more
fit_closing : (asked : Asked) (state time : ℕ) (message : OpenMessage) (old : Card)
    → message.block.0 < card_blocks → FitCard old → FitCard (closing asked state time message old)
unfolding closing closed_queue
fit_closing asked state time message old on_card fit =
    record {
      core = fit_with_message None old.core refl fit.core;
      queue =
          fit_closed_queue (asked.block && message.queued) message.block.0 old.queue
          on_card fit.queue;
    }

-- refusal 4 asks nothing of the remembered status ..
pub fit_faulted : (asked : Asked) (code time : ℕ) (message : OpenMessage) (old : Card)
    → message.block.0 < card_blocks → FitCard old → FitCard (faulted asked code time message old)
unfolding faulted with_status fit_core
fit_faulted asked code time message old on_card fit =
    fit_closing asked _ time message _ on_card (record { core = fit.core; queue = fit.queue })

-- .. nor of shut lines and inhibit
pub fit_ended : (asked : Asked) (time : ℕ) (message : OpenMessage) (old : Card)
    → message.block.0 < card_blocks → FitCard old → FitCard (ended asked time message old)
unfolding ended with_switches fit_core
fit_ended asked time message old on_card fit =
    fit_closing asked _ time message _ on_card (record { core = fit.core; queue = fit.queue })
