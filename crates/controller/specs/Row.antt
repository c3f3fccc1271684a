-- The data words of a reply: which are wanted, and a row of them, stored at once. No rule asks for
-- rows: a row is as many words heard (`proofs/RowWords`). Definitions only. Assumes nothing.
use Rattle.std.specs.Prelude.{cond, List, ℕ, ◌+◌, ltb, length, Option, Some, None}
use Rattle.bus.specs.declared.word.Word.{Word}
use Rattle.bus.specs.DataWords.{values_of}
use Rattle.card.specs.Memory.{with_cells}
use Rattle.formats.specs.declared.row.Format.{Format}
use Rattle.formats.specs.Row.{reply_cell, last_cell}
use Rattle.exchange.specs.declared.order.Order.{Order}
use Rattle.exchange.specs.declared.state.Stage.{Stage}
use Rattle.exchange.specs.declared.state.Stage.TheVariants.{Awaiting, Reply, AwaitingLast, Ended}
use Rattle.exchange.specs.Order.{format_for}
use Rattle.exchange.specs.Judge.{exchange_of}
use Rattle.exchange.specs.declared.state.Exchange.{Exchange}
use Rattle.controller.specs.declared.state.OpenMessage.{OpenMessage}
use Rattle.controller.specs.declared.state.Controller.{Controller}
use Rattle.controller.specs.declared.row.Wanted.{Wanted}
use Rattle.controller.specs.Control.{block_in, line_in}
use Rattle.controller.specs.State.{Desk, desk, with_message}

-- ---- the words that are wanted

-- behind a status: those of its reply that are not in
abbrev pub wanted_at : Stage → ℕ → Format → ℕ → Option Wanted
wanted_at Awaiting control format taken = None
wanted_at Reply control format taken =
    cond (ltb taken format.reply)
    (Some (record {
      block = block_in control;
      cell = reply_cell format + taken;
      end = last_cell format;
      line = line_in control;
      taken = taken;
    }))
    None
wanted_at AwaitingLast control format taken = None
wanted_at Ended control format taken = None

abbrev pub wanted_in : Option Exchange → Order → ℕ → Option Wanted
wanted_in None order control = None
wanted_in (Some so_far) order control =
    wanted_at so_far.stage control (format_for order) so_far.taken

abbrev pub wanted_of : Option OpenMessage → ℕ → Option Wanted
wanted_of None control = None
wanted_of (Some message) control = wanted_in message.progress message.order control

unfoldable pub words_wanted : Controller → Option Wanted
words_wanted state = wanted_of state.message state.control

-- ---- some of them are in

abbrev pub progress_with : ℕ → Option Exchange → Option Exchange
progress_with taken None = None
progress_with taken (Some so_far) = Some (exchange_of so_far.stage taken so_far.mark)

abbrev pub message_with : ℕ → Option OpenMessage → Option OpenMessage
message_with taken None = None
message_with taken (Some message) =
    Some (record { order = message.order; progress = progress_with taken message.progress })

unfoldable pub with_taken : ℕ → Controller → Controller
with_taken taken state = with_message (message_with taken state.message) state

-- a row of data words is stored from a cell on, so many being in before it
abbrev pub row_stored : List Word → ℕ → ℕ → Desk → Desk
row_stored row cell taken old =
    desk (with_taken (taken + length row) old.state)
    (with_cells old.ram (block_in old.state.control) cell (values_of row))
