-- What is asked of a run can be had: each message of the chain of three in `Runs` has it as it
-- starts. Assumes nothing.
use mathlib.Core.Path.{◌≡◌, refl, ap, sym, subst, ◌∙◌}
use mathlib.Core.Bool.{Bool, true, false}
use Prim.Native.Nat.{ℕ}
use borrow.Author.Tests.{eqb-false}
use Rattle.std.proofs.Common.{Option, Some, None}
use Rattle.formats.specs.declared.row.Row.{Row}
use Rattle.formats.specs.declared.row.Row.TheVariants.{ToTerminal, FromTerminal, Between}
use Rattle.formats.specs.Code.{format, coded_by}
use Rattle.exchange.specs.declared.order.Order.{Order}
use Rattle.controller.specs.declared.state.OpenMessage.{OpenMessage}
use Rattle.controller.specs.Control.{line_in, code_in}
use Rattle.controller.specs.State.{Desk}
use Rattle.controller.specs.Start.{Started, may_start, order_in, with_order, starting}
use Rattle.controller.specs.Actions.{whole_desk, start_action}
use Rattle.rack.specs.Bus.{Rack, message}
use Rattle.rack.specs.Asked.{taken, FitOrder, AllAddressed, Asked}
use Rattle.rack.specs.SameWords.{AskedEach}
use Rattle.rack_runs.proofs.Telling.{clock, told}
use Rattle.rack_runs.proofs.Having.{starts_by}
use Rattle.rack_runs.proofs.Tests.{
  all_of,
  each_by,
  is_idle_card,
  idle_card,
  is_ready,
  ready_card,
  are_different,
  different_by,
  is_on,
  on_bus_by,
}
use Rattle.rack_runs.proofs.Runs.{three}

-- ---- one message, by tests

abbrev order_of : Row → ℕ → ℕ → Order
order_of row first second =
    record { row = row; broadcast = false; first = first; second = second }

module _ (row : Row) (first second : ℕ) (old : Rack) where
  abbrev order : Order
  order = order_of row first second

  abbrev line : Bool
  line = line_in old.desk.state.control

  asked_by : whole_desk old.desk ≡ true → may_start old.desk.state ≡ true
      → coded_by (code_in old.desk.state.control) ≡ format row false
      → order_in row false old.desk ≡ order
      → FitOrder order
      → AllAddressed row first second old.terminals
      → are_different old.terminals ≡ true
      → all_of is_idle_card old.terminals ≡ true
      → all_of (λ terminal. is_ready line (taken order terminal) terminal) old.terminals ≡ true
      → Asked order old
  asked_by whole may_start_lem coded ordered fit addressed different idle ready =
      record {
        starts =
            starts_by row false old.desk whole may_start_lem coded
            ∙ ap (λ (any : Order). starting any old.desk) ordered;
        fit = fit;
        addressed = addressed;
        different = different_by old.terminals different;
        idle = each_by is_idle_card idle_card old.terminals idle;
        ready =
            each_by (λ terminal. is_ready line (taken order terminal) terminal)
            (λ terminal. ready_card line (taken order terminal) terminal) old.terminals ready;
      }

-- ---- a desk starts one order

abbrev opened_in : Order → Option OpenMessage → Order
opened_in other None = other
opened_in other (Some message) = message.order

same_order : (old : Desk) (one other : Order) → starting one old ≡ starting other old → one ≡ other
unfolding with_order
same_order old one other same =
    ap (λ (started : Started). opened_in one started.desk.state.message) same

whichever : (known : Order) (old : Rack) → Asked known old
    → (any : Order) → start_action old.desk ≡ starting any old.desk → Asked any old
whichever known old asked any starts =
    subst (λ (order : Order). Asked order old)
    (same_order old.desk known any (sym asked.starts ∙ starts)) asked

-- ---- the three messages

unfoldable second : Rack
second = message clock (three 7)

unfoldable third : Rack
third = message clock second

-- to unfold `tests` is to unfold what they compute
unfoldable tests : ℕ
unfolding told three second third all_of is_idle_card is_ready are_different is_on
tests = 0

the_first_is_asked : Asked (order_of ToTerminal 0x2862 0x1111) (three 7)
unfolding tests
the_first_is_asked =
    asked_by ToTerminal 0x2862 0x1111 (three 7) refl refl refl refl
    (record { row = refl; broadcast = refl }) (λ one. on_bus_by 5 (three 7).terminals refl)
    refl refl refl

the_second_is_asked : Asked (order_of FromTerminal 0x4C62 12) second
unfolding tests
the_second_is_asked =
    asked_by FromTerminal 0x4C62 12 second refl refl refl refl
    (record { row = refl; broadcast = refl }) (λ one. on_bus_by 9 second.terminals refl)
    refl refl refl

from_five_to_nine : FitOrder (order_of Between 0x4862 0x2C62)
unfolding tests
from_five_to_nine =
    record {
      row =
          record {
            receives = refl;
            asks = refl;
            to_one = refl;
            same_count = refl;
            other_station = eqb-false 5 9 refl;
          };
      broadcast = refl;
    }

the_third_is_asked : Asked (order_of Between 0x4862 0x2C62) third
unfolding tests
the_third_is_asked =
    asked_by Between 0x4862 0x2C62 third refl refl refl refl from_five_to_nine
    (λ one. on_bus_by 9 third.terminals refl, λ one. on_bus_by 5 third.terminals refl)
    refl refl refl

what_is_asked_of_a_run_can_be_had : AskedEach 3 (λ more. clock) (three 7)
unfolding AskedEach second third
what_is_asked_of_a_run_can_be_had = (
  whichever (order_of ToTerminal 0x2862 0x1111) (three 7) the_first_is_asked,
  (
    whichever (order_of FromTerminal 0x4C62 12) second the_second_is_asked,
    (whichever (order_of Between 0x4862 0x2C62) third the_third_is_asked, tt),
  ),
)
