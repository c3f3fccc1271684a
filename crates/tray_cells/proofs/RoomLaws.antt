-- What the program prints of state and cells is whole: both texts have room in its buffer, so that
-- `fitted` cuts nothing. Assumes nothing.
use Rattle.std.proofs.Common.{None, Option, Some}
use mathlib.Core.Path.{◌≡◌, refl}
use mathlib.Core.Bool.{Bool, true, false, cond}
use mathlib.Core.List.{List, [], ◌∷◌, ◌++◌}
use Prim.Native.Nat.{ℕ, zero, suc, ◌+◌, ◌*◌, ◌/◌, ◌%◌, ◌≤◌}
use native.Mathlib.Nat.{le_refl}
use native.Mathlib.Omega.{arith}
use lib.Dec.{eqb}
use lib.ListN.{length, take, get_or}
use Rattle.queue.specs.declared.Ring.{Ring}
use Rattle.queue.specs.Queue.{queue_places}
use Rattle.message.specs.declared.state.Stage.{Stage}
use Rattle.message.specs.declared.state.Stage.TheVariants.{
  Data,
  SecondCommand,
  AwaitingStatus,
  Skipping,
}
use Rattle.message.specs.declared.state.OpenMessage.{OpenMessage}
use Rattle.terminal.specs.declared.state.Core.{Core}
use Rattle.queue.specs.declared.Queue.{Queue}
use Rattle.lines.specs.Lines.{blank, newline}
use Rattle.lines.specs.Page.{on}
use Rattle.lines.specs.declared.Page.{Page}
use Rattle.tray.specs.declared.run.Tray.{Tray as HeldTray}
use Rattle.shown.specs.Text.{bytes, fitted, Fits}
use Rattle.shown.specs.Item.{item}
use Rattle.shown.specs.Cells.{cell_lines}
use Rattle.shown.proofs.TextLaws.{fits_then}
use Rattle.shown.proofs.RoomLaws.{
  AtMost,
  weaker,
  both,
  named,
  of_decimal,
  of_mark,
  of_byte,
  of_word,
  of_cells,
  put_whole,
}
use Rattle.tray_cells.specs.State.{
  line_name,
  second_text,
  stage_text,
  opening_text,
  fixed_text,
  progress_text,
  message_text,
  blocks_from,
  each_block,
  waiting_text,
  queue_text,
  words_text,
  remembered_text,
  switches_text,
  core_text,
  terminal_text,
  state_text,
}

-- ---- the state

of_line : (line : Bool) → AtMost 1 (line_name line)
of_line true = record { bound = le_refl 1 }
of_line false = record { bound = le_refl 1 }

of_second : (second : Option ℕ) → AtMost 4 (second_text second)
of_second None = record { bound = le_refl 4 }
of_second (Some command) = of_word command

of_stage : (stage : Stage) → AtMost 8 (stage_text stage)
of_stage Data = record { bound = omega arith }
of_stage SecondCommand = record { bound = omega arith }
of_stage AwaitingStatus = record { bound = omega arith }
of_stage Skipping = record { bound = omega arith }

of_opening : (message : OpenMessage) → AtMost 44 (opening_text message)
unfolding opening_text
of_opening message =
    both (both (named (bytes "open ") blank (of_word message.command))
    (named (bytes "line ") blank (of_line message.line)))
    (named (bytes "block ") blank (of_decimal message.block.0))

of_fixed : (message : OpenMessage) → AtMost 108 (fixed_text message)
unfolding fixed_text
of_fixed message =
    both (both (both (named (bytes "table ") blank (of_decimal message.table.0))
    (named (bytes "moved ") blank (of_mark message.moved)))
    (named (bytes "busy ") blank (of_mark message.busy)))
    (named (bytes "queued ") blank (of_mark message.queued))

of_progress : (message : OpenMessage) → AtMost 70 (progress_text message)
unfolding progress_text
of_progress message =
    both (both (both (named (bytes "opened ") blank
    (both (of_word (message.opened / 65536 % 65536)) (of_word (message.opened % 65536))))
    (named (bytes "taken ") blank (of_decimal message.taken)))
    (named (bytes "second ") blank (of_second message.second)))
    (named (bytes "stage ") newline (of_stage message.stage))

of_message : (message : Option OpenMessage) → AtMost 222 (message_text message)
unfolding message_text
of_message None = record { bound = omega arith }
of_message (Some message) =
    both (both (of_opening message) (of_fixed message)) (of_progress message)

of_blocks : (places : List ℕ) (start count : ℕ)
    → AtMost (21 * count) (each_block (blocks_from places start count))
unfolding blocks_from each_block
of_blocks places start zero = record { bound = omega arith }
of_blocks places start (suc count) =
    weaker
    (both (both {text = blank ∷ []} (record { bound = le_refl 1 })
    (of_decimal (get_or places (start % queue_places) 0)))
    (of_blocks places (start + 1) count))
    (omega arith)

of_waiting : (places : List ℕ) (ring : Ring)
    → AtMost (21 * ring.count + 13) (waiting_text places ring)
unfolding waiting_text
of_waiting places ring = go (eqb ring.count 0) where
  some : AtMost (7 + 21 * ring.count + 1)
      (item (bytes "waiting") (each_block (blocks_from places ring.start ring.count)) newline)
  some = named (bytes "waiting") newline (of_blocks places ring.start ring.count)

  go : (none : Bool) → AtMost (21 * ring.count + 13)
      (cond none (bytes "waiting none\n")
      (item (bytes "waiting") (each_block (blocks_from places ring.start ring.count))
      newline))
  go true = record { bound = omega arith }
  go false = weaker some (omega arith)

of_queue : (queue : Queue)
    → AtMost (30 + (21 * queue.ring.count + 13)) (queue_text queue)
unfolding queue_text
of_queue queue =
    both (named (bytes "overflow ") newline (of_mark queue.ring.overflow))
    (of_waiting queue.places queue.ring)

of_words : (core : Core) → AtMost 65 (words_text core)
unfolding words_text
of_words core =
    both (both (named (bytes "station ") newline (of_decimal core.station))
    (named (bytes "table ") newline (of_decimal core.table.0)))
    (named (bytes "flags ") newline (of_byte (core.flags % 256)))

of_remembered : (core : Core) → AtMost 22 (remembered_text core)
unfolding remembered_text
of_remembered core =
    both (named (bytes "status ") newline (of_word core.status))
    (named (bytes "last ") newline (of_word core.last))

of_switches : (core : Core) → AtMost 85 (switches_text core)
unfolding switches_text
of_switches core =
    both (both (named (bytes "shut A ") newline (of_mark core.shut.a))
    (named (bytes "shut B ") newline (of_mark core.shut.b)))
    (named (bytes "inhibit ") newline (of_mark core.inhibit))

of_terminal : (core : Core) (queue : Queue)
    → AtMost (172 + (30 + (21 * queue.ring.count + 13)) + 222) (terminal_text core queue)
unfolding terminal_text core_text
of_terminal core queue =
    both (both
    (both (both (of_words core) (of_remembered core)) (of_switches core))
    (of_queue queue)) (of_message core.message)

of_state : (run : HeldTray)
    → AtMost (437 + 21 * run.queue.ring.count) (state_text run)
unfolding state_text
of_state run = go run.seen.setup where
  go : (setup : Bool) → AtMost (437 + 21 * run.queue.ring.count)
      (cond setup (terminal_text run.core run.queue) (bytes "terminal none\n"))
  go true = weaker (of_terminal run.core run.queue) (omega arith)
  go false = record { bound = omega arith }

-- ---- the program's buffer

-- a page as it stands, over the buffer of another
abbrev over : Page → Page → Page
over other page =
    record page { out = record page.out { ghost_name = other.out.ghost_name } }

-- the state, then the cells, are all of what the program prints behind a run's lines; no more than
-- 256 blocks wait, since a run leaves a fit terminal
pub nothing_is_cut : (run : HeldTray) (ram : List ℕ) (empty stated full : Page)
    → run.queue.ring.count ≤ queue_places → length ram ≡ 16384
    → empty.at ≡ 0 → length empty.out.now ≡ 172032
    → on stated ≡ fitted empty.out.now empty.at (state_text run)
    → on full ≡ fitted stated.out.now stated.at (cell_lines 0 ram)
    → take full.at full.out.now ≡ state_text run ++ cell_lines 0 ram
nothing_is_cut run ram empty stated full few cells start room state rest =
    let one : Page = over empty stated in
    let both_put : Page = over empty full in
    let state_fits : Fits empty (state_text run) one =
    record { same_buffer = refl; is_fitted = state } in
    let rest_fits : Fits one (cell_lines 0 ram) both_put =
    record { same_buffer = refl; is_fitted = rest } in
    put_whole empty (state_text run ++ cell_lines 0 ram) full
    (fits_then state_fits rest_fits).is_fitted start
    (omega (
      arith,
      (both (of_state run) (of_cells 0 ram)).bound,
    ))
