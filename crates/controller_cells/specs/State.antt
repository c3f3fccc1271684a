-- The lines of the controller's state, an item a line; the items of an open message stand on one
-- line. Definitions only. Assumes nothing.
use Rattle.std.specs.Prelude.{cond, List, ◌++◌, ℕ, Option, Some, None}
use Rattle.formats.specs.declared.row.Row.{Row}
use Rattle.formats.specs.declared.row.Row.TheVariants.{
  ToTerminal,
  FromTerminal,
  Between,
  ModeAlone,
  ModeWithWord,
  ModeForWord,
}
use Rattle.exchange.specs.declared.order.Order.{Order}
use Rattle.exchange.specs.declared.state.Stage.{Stage}
use Rattle.exchange.specs.declared.state.Stage.TheVariants.{
  Awaiting,
  Reply,
  AwaitingLast,
  Ended,
}
use Rattle.controller.specs.declared.state.Came.{Came}
use Rattle.exchange.specs.declared.state.Exchange.{Exchange}
use Rattle.controller.specs.declared.state.OpenMessage.{OpenMessage}
use Rattle.controller.specs.declared.state.Controller.{Controller}
use Rattle.lines.specs.Digits.{hex_word, decimal}
use Rattle.shown.specs.Text.{bytes}
use Rattle.shown.specs.Item.{part, line, mark_text}
use Rattle.desk.specs.declared.run.Run.{Run as HeldRun}

-- the fault code and the mark of the last result, where there is one
unfoldable pub result_text : Option Came → List ℕ
result_text None = bytes "result none\n"
result_text (Some came) = part "result " (decimal came.code) ++ line "" (mark_text came.mark)

-- ---- the open message

-- a row, in the order of the table
unfoldable pub row_number : Row → ℕ
row_number ToTerminal = 0
row_number FromTerminal = 1
row_number Between = 2
row_number ModeAlone = 3
row_number ModeWithWord = 4
row_number ModeForWord = 5

-- what was asked: the row, whether it goes to a group (X, broadcast), and the commands
unfoldable pub order_text : Order → List ℕ
order_text order =
    part "open row " (decimal (row_number order.row))
    ++ part "group " (mark_text order.broadcast)
    ++ part "first " (hex_word order.first)
    ++ part "second " (hex_word order.second)

-- what is due, behind the first silence
abbrev pub stage_text : Stage → List ℕ
stage_text Awaiting = bytes "awaiting"
stage_text Reply = bytes "reply"
stage_text AwaitingLast = bytes "last"
stage_text Ended = bytes "ended"

-- how far the answer has come: what is due, the words of the reply, and the mark
unfoldable pub progress_text : Option Exchange → List ℕ
progress_text None = bytes "stage given taken 0 mark 0\n"
progress_text (Some answer) =
    part "stage " (stage_text answer.stage)
    ++ part "taken " (decimal answer.taken)
    ++ line "mark " (mark_text answer.mark)

-- all its items, where a message is open
unfoldable pub message_text : Option OpenMessage → List ℕ
message_text None = bytes "open none\n"
message_text (Some message) = order_text message.order ++ progress_text message.progress

-- ---- the controller

-- the control word, the starts left, and whether its message is due
unfoldable pub words_text : Controller → List ℕ
words_text state =
    line "control " (hex_word state.control)
    ++ line "count " (decimal state.count)
    ++ line "due " (mark_text state.due)

-- every item
unfoldable pub controller_text : Controller → List ℕ
controller_text state =
    words_text state ++ result_text state.result ++ message_text state.message

-- before a setup was taken there is no control word
unfoldable pub state_text : HeldRun → List ℕ
state_text run = cond run.seen.setup (controller_text run.controller) (bytes "control none\n")
