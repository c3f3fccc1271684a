-- Whoever is on the bus: the station that is addressed or not, one terminal of a station or two.
-- Each claim is false. Assumes nothing.
use mathlib.Core.Path.{◌≡◌, refl}
use mathlib.Core.Bool.{false}
use mathlib.Core.List.{List, [], ◌∷◌}
use Prim.Native.Nat.{ℕ}
use native.Mathlib.Omega.{arith}
use Rattle.terminal.specs.State.{Card}
use Rattle.formats.specs.declared.row.Row.TheVariants.{ToTerminal, FromTerminal}
use Rattle.exchange.specs.declared.order.Order.{Order}
use Rattle.controller.specs.State.{Desk}
use Rattle.controller.specs.Start.{order_in}
use Rattle.rack.specs.Bus.{rack}
use Rattle.rack.specs.Terminals.{Different, here}
use Rattle.rack.specs.Asked.{IsIdle, Ready, FitOrder}
use Rattle.rack_runs.proofs.Telling.{
  memory_of,
  terminal_of,
  five,
  nine,
  desk_of,
  clock,
  told,
}
use Rattle.rack_runs.proofs.Having.{
  starts_by,
  idle_by,
  ready_by,
  one_is_different,
  first_of,
}
use Rattle.rack_runs.proofs.Ready.{five_is_idle, nine_is_idle, five_is_ready}
use Rattle.rack_runs.proofs.Less.Claim.{
  Starts,
  AllThere,
  Claim,
  asked_of_one,
  asked_of_two,
}

-- ---- any stations

abbrev Anywhere : Order → List Card → Type 0
Anywhere order terminals = Unit {0}

-- two words to station 5, and only station 9 is there
abbrev to_five : Desk
to_five = desk_of 0 (0x2862 ∷ 0x1111 ∷ 0x2222 ∷ [])

an_absent_station_would_answer : Claim Starts FitOrder Anywhere Different IsIdle Ready → ⊥
unfolding told
an_absent_station_would_answer claim =
    let differs : ◌≡◌ {A = ℕ} 2 0 =
    (claim (order_in ToTerminal false to_five) clock (rack to_five (nine ∷ []))
    (asked_of_one (order_in ToTerminal false to_five) to_five nine
    (starts_by ToTerminal false to_five refl refl refl)
    (record { row = refl; broadcast = refl }) tt one_is_different nine_is_idle tt)
    ).code in
    omega arith

-- ---- the same station twice

abbrev Anyone : List Card → Type 0
Anyone terminals = Unit {0}

-- station 5 again, with other words to send
unfoldable other_five : Card
other_five = terminal_of 5 1 1 (memory_of 5 1 2 (0xCCCC ∷ 0xDDDD ∷ []))

abbrev from_five : Desk
from_five = desk_of 1 (0x2C62 ∷ [])

-- the controller holds the words of the one, and not those of the other
two_of_one_station_would_send_the_same :
    Claim Starts FitOrder AllThere Anyone IsIdle Ready → ⊥
unfolding told other_five
two_of_one_station_would_send_the_same claim =
    let differs : ◌≡◌ {A = ℕ} 0xAAAA 0xCCCC =
    (first_of (claim (order_in FromTerminal false from_five) clock
    (rack from_five (five ∷ other_five ∷ []))
    (asked_of_two (order_in FromTerminal false from_five) from_five five other_five
    (starts_by FromTerminal false from_five refl refl refl)
    (record { row = refl; broadcast = refl }) (λ one. here refl) tt
    five_is_idle (idle_by refl refl refl refl)
    (five_is_ready 0x2C62 refl refl) (ready_by refl refl refl))
    ).terminals).1 0 (omega arith) in
    omega arith
