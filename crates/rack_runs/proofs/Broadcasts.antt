-- A terminal whose broadcast is not enabled is no end of a broadcast: it is as before, and to claim
-- that it holds the words too is false. Assumes nothing.
use mathlib.Core.Path.{◌≡◌, refl}
use mathlib.Core.Bool.{true, false}
use mathlib.Core.List.{List, [], ◌∷◌, ◌++◌, map}
use Prim.Native.Nat.{ℕ}
use native.Mathlib.Omega.{arith}
use Rattle.card.specs.Memory.{the_block}
use Rattle.terminal.specs.State.{Card}
use Rattle.formats.specs.declared.row.Row.TheVariants.{ToTerminal}
use Rattle.exchange.specs.declared.order.Order.{Order}
use Rattle.controller.specs.State.{came, Desk}
use Rattle.controller.specs.Start.{order_in}
use Rattle.rack.specs.Hearing.{Stamps}
use Rattle.rack.specs.Bus.{Rack, rack, message}
use Rattle.rack.specs.Terminals.{Each, EachOf}
use Rattle.rack.specs.Asked.{IsIdle, Asked}
use Rattle.rack.specs.SameWords.{SameWords}
use Rattle.rack_runs.proofs.Telling.{
  cells_from,
  memory_of,
  terminal_of,
  five,
  desk_of,
  clock,
  told,
}
use Rattle.rack_runs.proofs.Having.{idle_by, one_is_different, to_all_lem, first_of}

-- two words to all
abbrev to_all : Desk
to_all = desk_of 8 (0xF862 ∷ 0x1111 ∷ 0x2222 ∷ [])

-- station 9 without flag 0
unfoldable deaf_nine : Card
deaf_nine = terminal_of 9 7 0 (memory_of 9 7 20 (0xCCCC ∷ 0xDDDD ∷ []))

deaf_is_idle : IsIdle deaf_nine
unfolding told deaf_nine
deaf_is_idle = idle_by refl refl refl refl

-- ---- what differs

abbrev old : Rack
old = rack to_all (five ∷ deaf_nine ∷ [])

the_broadcast_ends_with_code_0 : (message clock old).desk.state.result ≡ came 0 false
unfolding told deaf_nine
the_broadcast_ends_with_code_0 = refl

abbrev others_in : List Card → List Card
others_in [] = []
others_in (first ∷ others) = others

the_disabled_terminal_is_as_before : others_in (message clock old).terminals ≡ deaf_nine ∷ []
unfolding told deaf_nine
the_disabled_terminal_is_as_before = refl

-- in block 2 station 5 receives, in block 20 station 9 does
only_the_enabled_terminal_holds_the_words :
    map
    (λ (terminal : Card).
    cells_from (the_block 2) 0 2 terminal.ram ++ cells_from (the_block 20) 0 2 terminal.ram)
    (message clock old).terminals
    ≡ (0x1111 ∷ 0x2222 ∷ 5 ∷ 5 ∷ []) ∷ (9 ∷ 9 ∷ 9 ∷ 9 ∷ []) ∷ []
unfolding told deaf_nine
only_the_enabled_terminal_holds_the_words = refl

-- ---- every terminal an end of a broadcast, enabled or not

abbrev AllAreEnds : Type 0
AllAreEnds =
    (order : Order) (clock : ℕ → Stamps) (old : Rack) → Asked order old
    → order.broadcast ≡ true
    → EachOf
    (λ before after.
    SameWords order old.desk (message clock old).desk.ram order.first before after)
    old.terminals (message clock old).terminals

a_disabled_terminal_would_hold_the_words : AllAreEnds → ⊥
unfolding told deaf_nine
a_disabled_terminal_would_hold_the_words claim =
    let differs : ◌≡◌ {A = ℕ} 9 0x1111 =
    first_of (claim (order_in ToTerminal true to_all) clock (rack to_all (deaf_nine ∷ []))
    (record {
      starts = refl;
      fit = record { row = refl; broadcast = refl };
      addressed = to_all_lem 0xF862 refl;
      different = one_is_different;
      idle = Each.each deaf_is_idle Each.nobody;
      ready = Each.each tt Each.nobody;
    }) refl) 0 (omega arith) in
    omega arith
