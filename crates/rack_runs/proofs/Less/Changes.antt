-- The cells that may change, one kind left out at a time: data cells, cells 58 to 61, the link.
-- Each claim is false; with all three it is the theorem. Assumes nothing.
use Rattle.std.proofs.Common.{None, Option, Some}
use mathlib.Core.Path.{◌≡◌, refl}
use mathlib.Core.Bool.{Bool, true, false}
use mathlib.Core.List.{List, [], ◌∷◌}
use Prim.Native.Nat.{ℕ, ◌≤◌, ◌<◌}
use native.Mathlib.Omega.{arith}
use Rattle.std.proofs.Common.{Option, Some, None}
use Rattle.card.specs.declared.place.Block.{Block}
use Rattle.card.specs.declared.place.Cell.{Cell}
use Rattle.card.specs.Memory.{the_block, the_cell, word_address}
use Rattle.message.specs.declared.asked.Asked.{Asked as Row}
use Rattle.message.specs.Asked.{asked_of}
use Rattle.terminal.specs.State.{Card}
use Rattle.terminal_laws.specs.Written.{WritesOnly}
use Rattle.formats.specs.declared.row.Row.TheVariants.{ToTerminal}
use Rattle.exchange.specs.declared.order.Order.{Order}
use Rattle.controller.specs.State.{Desk}
use Rattle.controller.specs.Start.{order_in}
use Rattle.rack.specs.Hearing.{Stamps}
use Rattle.rack.specs.Bus.{Rack, rack, message}
use Rattle.rack.specs.Terminals.{Each, EachOf, here}
use Rattle.rack.specs.Asked.{opened_for, taken, Asked}
use Rattle.rack.specs.SameWords.{Served, BothEndsHoldTheSame}
use Rattle.rack.specs.Changed as changed
use Rattle.rack_runs.proofs.Telling.{five, desk_of, clock, told}
use Rattle.rack_runs.proofs.Having.{starts_by, one_is_different, first_of}
use Rattle.rack_runs.proofs.Ready.{five_is_idle, five_is_ready}

-- ---- the claim, by the kinds of cells that may change

data May (words service link : Bool) (asks : Row) (block table : Block) (address : ℕ)
    : Type 0 where
  a_data_cell : {cell : ℕ} → words ≡ true → cell < asks.takes
      → address ≡ word_address block (the_cell cell)
      → May words service link asks block table address
  a_service_cell : {cell : Cell} → service ≡ true → asks.block ≡ true → 58 ≤ cell.0
      → cell.0 ≤ 61 → address ≡ word_address block cell
      → May words service link asks block table address
  the_link : link ≡ true → asks.block ≡ true → address ≡ word_address table asks.cell
      → May words service link asks block table address

abbrev Changes : Bool → Bool → Bool → Option ℕ → Card → Card → Type 0
Changes words service link None old new = Unit {0}
Changes words service link (Some command) old new =
    WritesOnly (May words service link (asked_of command) (opened_for command old).block
    (opened_for command old).table) old.ram new.ram

abbrev Claim : Bool → Bool → Bool → Type 0
Claim words service link =
    (order : Order) (clock : ℕ → Stamps) (old : Rack) → Asked order old
    → EachOf (λ before after. Changes words service link (taken order before) before after)
    old.terminals (message clock old).terminals

-- ---- with all three it follows from the theorem

may_be : {asks : Row} {block table : Block} {address : ℕ}
    → changed.MayChange asks block table address → May true true true asks block table address
may_be (changed.a_data_cell low is) = a_data_cell refl low is
may_be (changed.a_service_cell has from to is) = a_service_cell refl has from to is
may_be (changed.the_link has is) = the_link refl has is

each_of_so : {Holds So : Card → Card → Type 0}
    → ((old new : Card) → Holds old new → So old new)
    → {olds news : List Card} → EachOf Holds olds news → EachOf So olds news
each_of_so so EachOf.nobody = EachOf.nobody
each_of_so so (EachOf.each first others) = EachOf.each (so _ _ first) (each_of_so so others)

the_theorem_has_the_claim : BothEndsHoldTheSame → Claim true true true
the_theorem_has_the_claim theorem order clock old asked =
    each_of_so (λ before after. so (taken order before) before after)
    (theorem order clock old asked).terminals
  where
    so : (command : Option ℕ) (before after : Card)
        → Served order old.desk (message clock old).desk.ram command before after
        → Changes true true true command before after
    so None before after served = tt
    so (Some command) before after served =
        record {
          same_length = served.2.same_length;
          same_else = λ address else. served.2.same_else address (λ may. else (may_be may));
        }

-- ---- each left out: two words to station 5, by cell 3 of block 1 into block 2

abbrev two_words : Desk
two_words = desk_of 0 (0x2862 ∷ 0x1111 ∷ 0x2222 ∷ [])

abbrev to_five : Order
to_five = order_in ToTerminal false two_words

asked_of_five : Asked to_five (rack two_words (five ∷ []))
unfolding told
asked_of_five =
    record {
      starts = starts_by ToTerminal false two_words refl refl refl;
      fit = record { row = refl; broadcast = refl };
      addressed = λ one. here refl;
      different = one_is_different;
      idle = Each.each five_is_idle Each.nobody;
      ready = Each.each (five_is_ready 0x2862 refl refl) Each.nobody;
    }

-- cell 0 of block 2 holds the first word
a_message_would_change_no_data_cell : Claim false true true → ⊥
unfolding told
a_message_would_change_no_data_cell claim =
    let differs : ◌≡◌ {A = ℕ} 0x1111 5 =
    (first_of (claim to_five clock (rack two_words (five ∷ [])) asked_of_five)).same_else 128
    never in
    omega arith
  where
    never : May false true true (asked_of 0x2862) (the_block 2) (the_block 1) 128 → ⊥
    never (a_data_cell may low is) = cc
    never (a_service_cell may has from to is) = omega arith
    never (the_link may has is) = omega arith

-- cell 59 the time
a_message_would_change_no_service_cell : Claim true false true → ⊥
unfolding told
a_message_would_change_no_service_cell claim =
    let differs : ◌≡◌ {A = ℕ} 0 5 =
    (first_of (claim to_five clock (rack two_words (five ∷ [])) asked_of_five)).same_else 187
    never in
    omega arith
  where
    never : May true false true (asked_of 0x2862) (the_block 2) (the_block 1) 187 → ⊥
    never (a_data_cell may low is) = omega arith
    never (a_service_cell may has from to is) = cc
    never (the_link may has is) = omega arith

-- the table cell what stands in cell 63 of block 2
a_message_would_leave_the_link : Claim true true false → ⊥
unfolding told
a_message_would_leave_the_link claim =
    let differs : ◌≡◌ {A = ℕ} 5 2 =
    (first_of (claim to_five clock (rack two_words (five ∷ [])) asked_of_five)).same_else 67
    never in
    omega arith
  where
    never : May true true false (asked_of 0x2862) (the_block 2) (the_block 1) 67 → ⊥
    never (a_data_cell may low is) = omega arith
    never (a_service_cell may has from to is) = omega arith
    never (the_link may has is) = cc
