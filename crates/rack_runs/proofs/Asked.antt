-- What is asked of a message can be had, for each of the ten format codes and over whole memories:
-- the racks of `Formats` have it. Assumes nothing.
use mathlib.Core.Path.{◌≡◌, refl, ap, sym, ◌∙◌}
use mathlib.Core.Bool.{true, false}
use mathlib.Core.List.{List, [], ◌∷◌}
use Prim.Native.Nat.{ℕ}
use lib.Dec.{eqb}
use lib.ListN.{get_or}
use borrow.Author.Tests.{eqb-false}
use Rattle.bus.specs.declared.kind.Kind.TheVariants.{Receive}
use Rattle.bus.specs.Command.{address_of, mode_code_of}
use Rattle.bus.specs.Kind.{kind_of}
use Rattle.formats.specs.Code.{format, coded_by}
use Rattle.exchange.specs.declared.order.Order.{Order}
use Rattle.controller.specs.Control.{line_in, code_in}
use Rattle.controller.specs.Start.{order_in, starting}
use Rattle.controller.specs.Actions.{whole_desk}
use Rattle.rack.specs.Bus.{Rack}
use Rattle.rack.specs.Terminals.{Each, here, there}
use Rattle.rack.specs.Asked.{ReadyFor, taken, FitTransfer, FitOrder, AllAddressed, Asked}
use Rattle.rack_runs.specs.Formats.{
  Case,
  to_five,
  from_nine,
  nine_to_five,
  to_all,
  nine_to_all,
  synchronize_five,
  word_to_nine,
  vector_of_five,
  synchronize_all,
  word_to_all,
  ten_formats,
}
use Rattle.rack_runs.proofs.Telling.{five, nine, two_stations, told}
use Rattle.rack_runs.proofs.Having.{starts_by, to_all_lem}
use Rattle.rack_runs.proofs.Ready.{
  five_is_idle,
  nine_is_idle,
  five_is_ready,
  nine_is_ready,
  five_and_nine_differ,
}

-- ---- the messages

abbrev rack_of : Case → Rack
rack_of case = two_stations case.code case.cells

-- the commands by themselves: a cell that is not set holds 12
abbrev order_of : Case → Order
order_of case =
    record {
      row = case.row;
      broadcast = case.broadcast;
      first = get_or case.cells 0 12;
      second = get_or case.cells 1 12;
    }

record AskedIn (case : Case) : Type 0 where
  asked : Asked (order_of case) (rack_of case)

-- what hangs on the case
asked_in : {case : Case}
    → whole_desk (rack_of case).desk ≡ true
    → order_in case.row case.broadcast (rack_of case).desk ≡ order_of case
    → coded_by (code_in (rack_of case).desk.state.control) ≡ format case.row case.broadcast
    → FitOrder (order_of case)
    → AllAddressed case.row (order_of case).first (order_of case).second (five ∷ nine ∷ [])
    → ReadyFor (line_in (rack_of case).desk.state.control) (taken (order_of case) five) five
    → ReadyFor (line_in (rack_of case).desk.state.control) (taken (order_of case) nine) nine
    → AskedIn case
unfolding told
asked_in {case} whole ordered coded fit addressed five_may nine_may =
    record {
      asked =
          record {
            starts =
                starts_by case.row case.broadcast (rack_of case).desk whole refl coded
                ∙ ap (λ (any : Order). starting any (rack_of case).desk) ordered;
            fit = fit;
            addressed = addressed;
            different = five_and_nine_differ;
            idle = Each.each five_is_idle (Each.each nine_is_idle Each.nobody);
            ready = Each.each five_may (Each.each nine_may Each.nobody);
          };
    }

-- row 2: two words from station 9, to station 5 and to all
from_nine_to : (first : ℕ) → kind_of first ≡ Receive → mode_code_of first ≡ 2
    → eqb 9 (address_of first) ≡ false → FitTransfer first 0x4C62
unfolding told
from_nine_to first receives two other =
    record {
      receives = receives;
      asks = refl;
      to_one = refl;
      same_count = sym two;
      other_station = eqb-false 9 (address_of first) other;
    }

-- ---- code by code

asked_of_two_words_to_five : AskedIn to_five
unfolding told to_five
asked_of_two_words_to_five =
    asked_in refl refl refl (record { row = refl; broadcast = refl }) (λ one. here refl)
    (five_is_ready 0x2862 refl refl) tt

asked_of_two_words_from_nine : AskedIn from_nine
unfolding told from_nine
asked_of_two_words_from_nine =
    asked_in refl refl refl (record { row = refl; broadcast = refl }) (λ one. there (here refl))
    tt (nine_is_ready 0x4C62 refl refl)

asked_from_nine_to_five : AskedIn nine_to_five
unfolding told nine_to_five
asked_from_nine_to_five =
    asked_in refl refl refl (record { row = from_nine_to 0x2862 refl refl refl; broadcast = refl })
    (λ one. here refl, λ one. there (here refl))
    (five_is_ready 0x2862 refl refl) (nine_is_ready 0x4C62 refl refl)

asked_of_synchronize : AskedIn synchronize_five
unfolding told synchronize_five
asked_of_synchronize =
    asked_in refl refl refl (record { row = refl; broadcast = refl }) (λ one. here refl)
    (five_is_ready 0x2C01 refl refl) tt

asked_of_a_word_to_nine : AskedIn word_to_nine
unfolding told word_to_nine
asked_of_a_word_to_nine =
    asked_in refl refl refl (record { row = refl; broadcast = refl }) (λ one. there (here refl))
    tt (nine_is_ready 0x4811 refl refl)

asked_of_a_vector_word : AskedIn vector_of_five
unfolding told vector_of_five
asked_of_a_vector_word =
    asked_in refl refl refl (record { row = refl; broadcast = refl }) (λ one. here refl)
    (five_is_ready 0x2C10 refl refl) tt

asked_of_two_words_to_all : AskedIn to_all
unfolding told to_all
asked_of_two_words_to_all =
    asked_in refl refl refl (record { row = refl; broadcast = refl }) (to_all_lem 0xF862 refl)
    (five_is_ready 0xF862 refl refl) (nine_is_ready 0xF862 refl refl)

asked_from_nine_to_all : AskedIn nine_to_all
unfolding told nine_to_all
asked_from_nine_to_all =
    asked_in refl refl refl (record { row = from_nine_to 0xF862 refl refl refl; broadcast = refl })
    (to_all_lem 0xF862 refl, λ one. there (here refl))
    (five_is_ready 0xF862 refl refl) (nine_is_ready 0x4C62 refl refl)

asked_of_synchronize_to_all : AskedIn synchronize_all
unfolding told synchronize_all
asked_of_synchronize_to_all =
    asked_in refl refl refl (record { row = refl; broadcast = refl }) (to_all_lem 0xFC01 refl)
    (five_is_ready 0xFC01 refl refl) (nine_is_ready 0xFC01 refl refl)

asked_of_a_word_to_all : AskedIn word_to_all
unfolding told word_to_all
asked_of_a_word_to_all =
    asked_in refl refl refl (record { row = refl; broadcast = refl }) (to_all_lem 0xF811 refl)
    (five_is_ready 0xF811 refl refl) (nine_is_ready 0xF811 refl refl)

-- ---- all of them

data AskedInEach : List Case → Type 0 where
  no_more : AskedInEach []
  also : {case : Case} {cases : List Case}
      → AskedIn case → AskedInEach cases → AskedInEach (case ∷ cases)

what_is_asked_can_be_had : AskedInEach ten_formats
what_is_asked_can_be_had =
    also asked_of_two_words_to_five
    (also asked_of_two_words_from_nine
    (also asked_from_nine_to_five
    (also asked_of_synchronize
    (also asked_of_a_word_to_nine
    (also asked_of_a_vector_word
    (also asked_of_two_words_to_all
    (also asked_from_nine_to_all
    (also asked_of_synchronize_to_all
    (also asked_of_a_word_to_all no_more)))))))))
