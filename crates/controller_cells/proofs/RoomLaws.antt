-- What the program prints of state and cells is whole: both texts have room in its buffer, so that
-- `fitted` cuts nothing. Assumes nothing.
use mathlib.Core.Path.{◌≡◌, refl}
use mathlib.Core.Bool.{Bool, true, false, cond}
use mathlib.Core.List.{List, ◌++◌}
use Prim.Native.Nat.{ℕ}
use native.Mathlib.Omega.{arith}
use lib.ListN.{length, take}
use Rattle.std.proofs.Common.{Option, Some, None}
use Rattle.exchange.specs.declared.order.Order.{Order}
use Rattle.exchange.specs.declared.state.Stage.{Stage}
use Rattle.exchange.specs.declared.state.Stage.TheVariants.{
  Awaiting,
  Reply,
  AwaitingLast,
  Ended,
}
use Rattle.controller.specs.declared.state.Came.{Came}
use Rattle.exchange.specs.declared.state.Exchange.{Exchange}
use Rattle.controller.specs.declared.state.OpenMessage.{OpenMessage}
use Rattle.controller.specs.declared.state.Controller.{Controller}
use Rattle.lines.specs.Lines.{blank, newline}
use Rattle.lines.specs.Page.{on}
use Rattle.lines.specs.declared.Page.{Page}
use Rattle.shown.specs.Text.{bytes, fitted, Fits}
use Rattle.shown.specs.Cells.{cell_lines}
use Rattle.shown.proofs.TextLaws.{fits_then}
use Rattle.shown.proofs.RoomLaws.{
  AtMost,
  both,
  named,
  of_decimal,
  of_mark,
  of_word,
  of_cells,
  put_whole,
}
use Rattle.desk.specs.declared.run.Run.{Run as HeldRun}
use Rattle.controller_cells.specs.State.{
  result_text,
  row_number,
  order_text,
  stage_text,
  progress_text,
  message_text,
  words_text,
  controller_text,
  state_text,
}

of_result : (result : Option Came) → AtMost 49 (result_text result)
unfolding result_text
of_result None = record { bound = omega arith }
of_result (Some came) =
    both (named (bytes "result ") blank (of_decimal came.code))
    (named (bytes "") newline (of_mark came.mark))

of_order : (order : Order) → AtMost 80 (order_text order)
unfolding order_text
of_order order =
    both (both (both (named (bytes "open row ") blank (of_decimal (row_number order.row)))
    (named (bytes "group ") blank (of_mark order.broadcast)))
    (named (bytes "first ") blank (of_word order.first)))
    (named (bytes "second ") blank (of_word order.second))

of_stage : (stage : Stage) → AtMost 8 (stage_text stage)
of_stage Awaiting = record { bound = omega arith }
of_stage Reply = record { bound = omega arith }
of_stage AwaitingLast = record { bound = omega arith }
of_stage Ended = record { bound = omega arith }

of_progress : (progress : Option Exchange) → AtMost 68 (progress_text progress)
unfolding progress_text
of_progress None = record { bound = omega arith }
of_progress (Some answer) =
    both (both (named (bytes "stage ") blank (of_stage answer.stage))
    (named (bytes "taken ") blank (of_decimal answer.taken)))
    (named (bytes "mark ") newline (of_mark answer.mark))

of_message : (message : Option OpenMessage) → AtMost 148 (message_text message)
unfolding message_text
of_message None = record { bound = omega arith }
of_message (Some message) = both (of_order message.order) (of_progress message.progress)

of_controller : (state : Controller) → AtMost 262 (controller_text state)
unfolding controller_text words_text
of_controller state =
    both (both (both (both (named (bytes "control ") newline (of_word state.control))
    (named (bytes "count ") newline (of_decimal state.count)))
    (named (bytes "due ") newline (of_mark state.due)))
    (of_result state.result)) (of_message state.message)

of_state : (run : HeldRun) → AtMost 262 (state_text run)
unfolding state_text
of_state run = go run.seen.setup where
  go : (setup : Bool)
      → AtMost 262 (cond setup (controller_text run.controller) (bytes "control none\n"))
  go true = of_controller run.controller
  go false = record { bound = omega arith }

-- a page as it stands, over the buffer of another
abbrev over : Page → Page → Page
over other page =
    record page { out = record page.out { ghost_name = other.out.ghost_name } }

-- the state, then the cells, are all of what the program prints behind a run's lines
pub nothing_is_cut : (run : HeldRun) (ram : List ℕ) (empty stated full : Page)
    → length ram ≡ 16384
    → empty.at ≡ 0 → length empty.out.now ≡ 172032
    → on stated ≡ fitted empty.out.now empty.at (state_text run)
    → on full ≡ fitted stated.out.now stated.at (cell_lines 0 ram)
    → take full.at full.out.now ≡ state_text run ++ cell_lines 0 ram
nothing_is_cut run ram empty stated full cells start room state rest =
    let one : Page = over empty stated in
    let both_put : Page = over empty full in
    let state_fits : Fits empty (state_text run) one =
    record { same_buffer = refl; is_fitted = state } in
    let rest_fits : Fits one (cell_lines 0 ram) both_put =
    record { same_buffer = refl; is_fitted = rest } in
    put_whole empty (state_text run ++ cell_lines 0 ram) full
    (fits_then state_fits rest_fits).is_fitted start
    (omega (
      arith,
      (both (of_state run) (of_cells 0 ram)).bound,
    ))
