-- The laws of `specs/State.antt`: the parts of the state's text in turn, as the code puts them.
-- Assumes nothing.
use mathlib.Core.Path.{◌≡◌, refl}
use mathlib.Core.Bool.{true, false}
use mathlib.Core.List.{◌++◌}
use Rattle.std.proofs.Common.{Option, Some, None}
use denote.Enum.Declared.{tag_of}
use Rattle.formats.specs.contracts.row.Row.{the_type}
use Rattle.formats.specs.declared.row.Row.{Row}
use Rattle.formats.specs.declared.row.Row.TheVariants.{
  ToTerminal,
  FromTerminal,
  Between,
  ModeAlone,
  ModeWithWord,
  ModeForWord,
}
use Rattle.exchange.specs.declared.state.Stage.{Stage}
use Rattle.exchange.specs.declared.state.Stage.TheVariants.{
  Awaiting,
  Reply,
  AwaitingLast,
  Ended,
}
use Rattle.exchange.specs.declared.state.Exchange.{Exchange}
use Rattle.controller.specs.declared.state.Came.{Came}
use Rattle.controller.specs.declared.state.OpenMessage.{OpenMessage}
use Rattle.lines.specs.Digits.{decimal}
use Rattle.lines.specs.declared.Page.{Page}
use Rattle.shown.specs.Text.{bytes, Fits}
use Rattle.shown.specs.Item.{part, line, mark_text}
use Rattle.desk.specs.declared.run.Run.{Run as HeldRun}
use Rattle.controller_cells.specs.State.{
  result_text,
  row_number,
  order_text,
  stage_text,
  progress_text,
  message_text,
  controller_text,
  state_text,
}

-- ---- one part

-- the place of a row among its kind is its number
numbered : (row : Row) → tag_of the_type row ≡ row_number row
unfolding row_number
numbered ToTerminal = refl
numbered FromTerminal = refl
numbered Between = refl
numbered ModeAlone = refl
numbered ModeWithWord = refl
numbered ModeForWord = refl

module _ {old new : Page} where
  pub result_none : (result : Option Came) → result ≡ None
      → Fits old (bytes "result none\n") new
      → Fits old (result_text result) new
  unfolding result_text
  result_none result is fits = rw is fits

  pub row_fits : (row : Row) → Fits old (part "open row " (decimal (tag_of the_type row))) new
      → Fits old (part "open row " (decimal (row_number row))) new
  row_fits row fits = rw (← numbered row) fits

  module _ (stage : Stage) where
    pub stage_awaiting : stage ≡ Awaiting → Fits old (bytes "stage awaiting ") new
        → Fits old (part "stage " (stage_text stage)) new
    stage_awaiting is fits = rw is fits

    pub stage_reply : stage ≡ Reply → Fits old (bytes "stage reply ") new
        → Fits old (part "stage " (stage_text stage)) new
    stage_reply is fits = rw is fits

    pub stage_last : stage ≡ AwaitingLast → Fits old (bytes "stage last ") new
        → Fits old (part "stage " (stage_text stage)) new
    stage_last is fits = rw is fits

    pub stage_ended : stage ≡ Ended → Fits old (bytes "stage ended ") new
        → Fits old (part "stage " (stage_text stage)) new
    stage_ended is fits = rw is fits

  pub progress_given : (progress : Option Exchange) → progress ≡ None
      → Fits old (bytes "stage given taken 0 mark 0\n") new
      → Fits old (progress_text progress) new
  unfolding progress_text
  progress_given progress is fits = rw is fits

  pub message_idle : (message : Option OpenMessage) → message ≡ None
      → Fits old (bytes "open none\n") new
      → Fits old (message_text message) new
  unfolding message_text
  message_idle message is fits = rw is fits

  pub state_none : (run : HeldRun) → run.seen.setup ≡ false
      → Fits old (bytes "control none\n") new
      → Fits old (state_text run) new
  unfolding state_text
  state_none run is fits = rw is fits

  pub state_some : (run : HeldRun) → run.seen.setup ≡ true
      → Fits old (controller_text run.controller) new
      → Fits old (state_text run) new
  unfolding state_text
  state_some run is fits = rw is fits

  -- ---- with its parts

  pub result_came : (result : Option Came) (came : Came) → result ≡ Some came
      → Fits old (part "result " (decimal came.code) ++ line "" (mark_text came.mark)) new
      → Fits old (result_text result) new
  unfolding result_text
  result_came result came is fits = rw is fits

  pub message_open : (message : Option OpenMessage) (held : OpenMessage) → message ≡ Some held
      → Fits old (order_text held.order ++ progress_text held.progress) new
      → Fits old (message_text message) new
  unfolding message_text
  message_open message held is fits = rw is fits

  pub progress_back : (progress : Option Exchange) (answer : Exchange) → progress ≡ Some answer
      → Fits old
      (part "stage " (stage_text answer.stage)
      ++ part "taken " (decimal answer.taken)
      ++ line "mark " (mark_text answer.mark)) new
      → Fits old (progress_text progress) new
  unfolding progress_text
  progress_back progress answer is fits = rw is fits
