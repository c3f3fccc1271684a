-- A transfer between two terminals, one thing less asked of its commands: a receive, a data
-- transmit, to one station, the same count, another station. Each claim is false. Assumes nothing.
use mathlib.Core.Path.{◌≡◌, refl}
use mathlib.Core.Logic.{◌≢◌}
use mathlib.Core.Bool.{true, false}
use mathlib.Core.List.{[], ◌∷◌}
use Prim.Native.Nat.{ℕ}
use native.Mathlib.Omega.{arith}
use borrow.Author.Tests.{eqb-false}
use Rattle.bus.specs.declared.kind.Kind.TheVariants.{Receive}
use Rattle.bus.specs.Command.{address_of, is_broadcast, mode_code_of}
use Rattle.bus.specs.Kind.{kind_of}
use Rattle.message.specs.Words.{asks_for_data}
use Rattle.formats.specs.declared.row.Row.TheVariants.{Between}
use Rattle.exchange.specs.declared.order.Order.{Order}
use Rattle.controller.specs.State.{Desk}
use Rattle.controller.specs.Start.{order_in}
use Rattle.controller.specs.Actions.{whole_desk}
use Rattle.rack.specs.Bus.{rack}
use Rattle.rack.specs.Terminals.{Different, here, there}
use Rattle.rack.specs.Asked.{IsIdle, Ready}
use Rattle.rack_runs.proofs.Telling.{five, nine, desk_of, clock, told}
use Rattle.rack_runs.proofs.Having.{starts_by, one_is_different, to_all_lem}
use Rattle.rack_runs.proofs.Ready.{
  five_is_idle,
  nine_is_idle,
  five_is_ready,
  nine_is_ready,
  five_and_nine_differ,
}
use Rattle.rack_runs.proofs.Less.Claim.{
  Starts,
  AllThere,
  Claim,
  asked_of_one,
  asked_of_two,
}

-- ---- what is asked of the two commands, each of five things by itself

record FitBy (OfFirst OfSecond Address : ℕ → Type 0) (Counts Stations : ℕ → ℕ → Type 0)
    (order : Order) : Type 0 where
  between : order.row ≡ Between
  broadcast : is_broadcast order.first ≡ order.broadcast
  receives : OfFirst order.first
  asks : OfSecond order.second
  to_one : Address order.second
  same_count : Counts order.first order.second
  other_station : Stations order.first order.second

fit_by : {OfFirst OfSecond Address : ℕ → Type 0} {Counts Stations : ℕ → ℕ → Type 0} {order : Order}
    → order.row ≡ Between → is_broadcast order.first ≡ order.broadcast
    → OfFirst order.first → OfSecond order.second → Address order.second
    → Counts order.first order.second → Stations order.first order.second
    → FitBy OfFirst OfSecond Address Counts Stations order
fit_by between broadcast receives asks to_one same_count other_station =
    record {
      between = between;
      broadcast = broadcast;
      receives = receives;
      asks = asks;
      to_one = to_one;
      same_count = same_count;
      other_station = other_station;
    }

abbrev Receives : ℕ → Type 0
Receives first = kind_of first ≡ Receive

abbrev Asks : ℕ → Type 0
Asks second = asks_for_data second ≡ true

abbrev ToOne : ℕ → Type 0
ToOne second = is_broadcast second ≡ false

abbrev SameCount : ℕ → ℕ → Type 0
SameCount first second = mode_code_of second ≡ mode_code_of first

abbrev OtherStation : ℕ → ℕ → Type 0
OtherStation first second = address_of second ≢ address_of first

-- nothing of it
abbrev Any : ℕ → Type 0
Any command = Unit {0}

abbrev AnyTwo : ℕ → ℕ → Type 0
AnyTwo first second = Unit {0}

abbrev ClaimFor : (Order → Type 0) → Type 0
ClaimFor Fit = Claim Starts Fit AllThere Different IsIdle Ready

-- two commands: no status comes back where one is due, code 2
abbrev commands : ℕ → ℕ → Desk
commands first second = desk_of 2 (first ∷ second ∷ [])

abbrev order_of : ℕ → ℕ → Order
order_of first second = order_in Between false (commands first second)

begins : (first second : ℕ) → whole_desk (commands first second) ≡ true
    → Starts (order_of first second) (commands first second)
unfolding told
begins first second whole = starts_by Between false (commands first second) whole refl refl

-- ---- each of them left out once

-- two transmits: station 5 closes with 4
the_first_would_be_any_command : ClaimFor (FitBy Any Asks ToOne SameCount OtherStation) → ⊥
unfolding told
the_first_would_be_any_command claim =
    let differs : ◌≡◌ {A = ℕ} 2 0 =
    (claim (order_of 0x2C62 0x4C62) clock (rack (commands 0x2C62 0x4C62) (five ∷ nine ∷ []))
    (asked_of_two (order_of 0x2C62 0x4C62) (commands 0x2C62 0x4C62) five nine
    (begins 0x2C62 0x4C62 refl) (fit_by refl refl tt refl refl refl (eqb-false 9 5 refl))
    (λ one. here refl, λ one. there (here refl)) five_and_nine_differ
    five_is_idle nine_is_idle
    (five_is_ready 0x2C62 refl refl) (nine_is_ready 0x4C62 refl refl))
    ).code in
    omega arith

-- two receives: station 5 closes with 7, station 9 with 3
the_second_would_be_any_command : ClaimFor (FitBy Receives Any ToOne SameCount OtherStation) → ⊥
unfolding told
the_second_would_be_any_command claim =
    let differs : ◌≡◌ {A = ℕ} 2 0 =
    (claim (order_of 0x2862 0x4862) clock (rack (commands 0x2862 0x4862) (five ∷ nine ∷ []))
    (asked_of_two (order_of 0x2862 0x4862) (commands 0x2862 0x4862) five nine
    (begins 0x2862 0x4862 refl) (fit_by refl refl refl tt refl refl (eqb-false 9 5 refl))
    (λ one. here refl, λ one. there (here refl)) five_and_nine_differ
    five_is_idle nine_is_idle
    (five_is_ready 0x2862 refl refl) (nine_is_ready 0x4862 refl refl))
    ).code in
    omega arith

-- nobody may send to a broadcast: station 5 closes with 7
all_would_send : ClaimFor (FitBy Receives Asks Any SameCount OtherStation) → ⊥
unfolding told
all_would_send claim =
    let differs : ◌≡◌ {A = ℕ} 2 0 =
    (claim (order_of 0x2862 0xFC62) clock (rack (commands 0x2862 0xFC62) (five ∷ []))
    (asked_of_one (order_of 0x2862 0xFC62) (commands 0x2862 0xFC62) five
    (begins 0x2862 0xFC62 refl) (fit_by refl refl refl refl tt refl (eqb-false 31 5 refl))
    (λ one. here refl, to_all_lem 0xFC62 refl) one_is_different five_is_idle
    (five_is_ready 0xFC62 refl refl))
    ).code in
    omega arith

-- one word from station 9 for two of station 5, which closes with 7
other_counts_would_do : ClaimFor (FitBy Receives Asks ToOne AnyTwo OtherStation) → ⊥
unfolding told
other_counts_would_do claim =
    let differs : ◌≡◌ {A = ℕ} 2 0 =
    (claim (order_of 0x2862 0x4C61) clock (rack (commands 0x2862 0x4C61) (five ∷ nine ∷ []))
    (asked_of_two (order_of 0x2862 0x4C61) (commands 0x2862 0x4C61) five nine
    (begins 0x2862 0x4C61 refl) (fit_by refl refl refl refl refl tt (eqb-false 9 5 refl))
    (λ one. here refl, λ one. there (here refl)) five_and_nine_differ
    five_is_idle nine_is_idle
    (five_is_ready 0x2862 refl refl) (nine_is_ready 0x4C61 refl refl))
    ).code in
    omega arith

-- from station 5 to itself: it closes with 7
one_station_would_do : ClaimFor (FitBy Receives Asks ToOne SameCount AnyTwo) → ⊥
unfolding told
one_station_would_do claim =
    let differs : ◌≡◌ {A = ℕ} 2 0 =
    (claim (order_of 0x2862 0x2C62) clock (rack (commands 0x2862 0x2C62) (five ∷ []))
    (asked_of_one (order_of 0x2862 0x2C62) (commands 0x2862 0x2C62) five
    (begins 0x2862 0x2C62 refl) (fit_by refl refl refl refl refl refl tt)
    (λ one. here refl, λ one. here refl) one_is_different five_is_idle
    (five_is_ready 0x2C62 refl refl))
    ).code in
    omega arith
