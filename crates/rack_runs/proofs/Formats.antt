-- The ten format codes at work: one proof over the table of `specs/Formats.antt`, at two terminals
-- with other tables and other memories. Assumes nothing.
use Rattle.std.proofs.Common.{None, Option, Some}
use mathlib.Core.Path.{◌≡◌, refl}
use mathlib.Core.Bool.{◌&&◌}
use mathlib.Core.List.{List, [], ◌∷◌, map}
use Prim.Native.Nat.{ℕ}
use lib.ListN.{get_or}
use Rattle.std.proofs.Common.{Option, Some, None}
use Rattle.terminal.specs.State.{Card}
use Rattle.formats.specs.Row.{data_cell, data_words}
use Rattle.exchange.specs.declared.order.Order.{Order}
use Rattle.exchange.specs.Order.{format_for}
use Rattle.controller.specs.Control.{block_in}
use Rattle.controller.specs.State.{is_idle}
use Rattle.controller.specs.Start.{order_in}
use Rattle.rack.specs.Bus.{Rack, message}
use Rattle.rack.specs.Asked.{opened_for, taken}
use Rattle.rack_runs.specs.Formats.{End, end_of, Seen, Case, ten_formats, cases}
use Rattle.rack_runs.proofs.Telling.{put, cells_from, five, nine, two_stations, clock, told}
use Rattle.rack_runs.proofs.Tests.{all_of, has_ended}

-- ---- what is looked at

-- the ends of an order, by the terminals before and after
abbrev with_end : Order → Option ℕ → Card → Card → List End → List End
with_end order None before after ends = ends
with_end order (Some command) before after ends =
    end_of after.core.station
    (cells_from (opened_for command before).block 0 (data_words (format_for order)) after.ram)
    ∷ ends

unfoldable ends_of : Order → List Card → List Card → List End
ends_of order [] after = []
ends_of order (one ∷ before) [] = []
ends_of order (one ∷ before) (other ∷ after) =
    with_end order (taken order one) one other (ends_of order before after)

abbrev last_word : List ℕ → ℕ
last_word ram = get_or ram 16383 0

unfoldable seen : Order → Rack → Rack → Seen
seen order old new =
    record {
      result = new.desk.state.result;
      idle =
          is_idle new.desk.state.message
          && all_of (λ terminal. has_ended terminal.core.message) new.terminals;
      words =
          cells_from (block_in old.desk.state.control) (data_cell order.row)
          (data_words (format_for order)) new.desk.ram;
      ends = ends_of order old.terminals new.terminals;
      lasts = map (λ (terminal : Card). terminal.core.last) new.terminals;
      elsewhere =
          last_word new.desk.ram
          ∷ map (λ (terminal : Card). last_word terminal.ram) new.terminals;
    }

abbrev found : Case → Seen
found case =
    let old : Rack = two_stations case.code case.cells in
    seen (order_in case.row case.broadcast old.desk) old (message clock old)

-- code 0, all idle, the same words at both ends, memories that differ elsewhere
every_format_carries_the_same_words : map found ten_formats ≡ map (λ case. case.seen) ten_formats
unfolding told cases all_of ends_of seen
every_format_carries_the_same_words = refl

-- "synchronize" has no data word: cells 58 to 61 of block 3 and the link, which goes into table
-- cell 31, are all that it changes in the memory of station 5, and station 9 is as before
a_mode_command_alone_writes_no_other_cell :
    map (λ (terminal : Card). terminal.ram)
    (message clock (two_stations 3 (0x2C01 ∷ []))).terminals
    ≡ put 1 31 (5 ∷ []) (put 3 58 (0 ∷ 0 ∷ 390 ∷ 90 ∷ []) five.ram) ∷ nine.ram ∷ []
unfolding told
a_mode_command_alone_writes_no_other_cell = refl
