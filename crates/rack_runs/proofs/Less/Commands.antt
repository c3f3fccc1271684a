-- Commands that do not fit: a broadcast without X, "transmit last command", a command of another
-- row. Each claim is false. Assumes nothing.
use mathlib.Core.Path.{◌≡◌, refl}
use mathlib.Core.Bool.{false}
use mathlib.Core.List.{[], ◌∷◌}
use Prim.Native.Nat.{ℕ}
use native.Mathlib.Omega.{arith}
use Rattle.bus.specs.declared.kind.Kind.TheVariants.{ModeLast}
use Rattle.bus.specs.Command.{is_broadcast}
use Rattle.bus.specs.Kind.{kind_of}
use Rattle.message.specs.Asked.{asked_of}
use Rattle.formats.specs.declared.row.Row.TheVariants.{ToTerminal, ModeForWord}
use Rattle.exchange.specs.declared.order.Order.{Order}
use Rattle.controller.specs.State.{Desk}
use Rattle.controller.specs.Start.{order_in}
use Rattle.rack.specs.Bus.{rack}
use Rattle.rack.specs.Terminals.{Different, here}
use Rattle.rack.specs.Asked.{IsIdle, Ready, FitRow}
use Rattle.rack_runs.proofs.Telling.{five, desk_of, clock, told}
use Rattle.rack_runs.proofs.Having.{starts_by, one_is_different, to_all_lem, first_of}
use Rattle.rack_runs.proofs.Ready.{five_is_idle, five_is_ready}
use Rattle.rack_runs.proofs.Less.Claim.{Starts, AllThere, Claim, asked_of_one}

-- the fitness of the commands may vary
abbrev ClaimFor : (Order → Type 0) → Type 0
ClaimFor Fit = Claim Starts Fit AllThere Different IsIdle Ready

-- ---- X or not, whatever the address

record AnyAddress (order : Order) : Type 0 where
  row : FitRow order.row order.first order.second

-- nobody answers a broadcast
abbrev without_x : Desk
without_x = desk_of 0 (0xF862 ∷ 0x1111 ∷ 0x2222 ∷ [])

a_broadcast_without_x_would_be_answered : ClaimFor AnyAddress → ⊥
unfolding told
a_broadcast_without_x_would_be_answered claim =
    let differs : ◌≡◌ {A = ℕ} 2 0 =
    (claim (order_in ToTerminal false without_x) clock (rack without_x (five ∷ []))
    (asked_of_one (order_in ToTerminal false without_x) without_x five
    (starts_by ToTerminal false without_x refl refl refl) (record { row = refl })
    (to_all_lem 0xF862 refl) one_is_different five_is_idle (five_is_ready 0xF862 refl refl))
    ).code in
    omega arith

-- ---- "transmit last command"

record LastCommand (order : Order) : Type 0 where
  row : order.row ≡ ModeForWord
  last : kind_of order.first ≡ ModeLast
  broadcast : is_broadcast order.first ≡ order.broadcast

-- there is no block to compare: the word sent is no word of memory
abbrev last_command : Desk
last_command = desk_of 5 (0x2C12 ∷ [])

the_last_command_would_be_in_memory : ClaimFor LastCommand → ⊥
unfolding told
the_last_command_would_be_in_memory claim =
    let differs : ◌≡◌ {A = ℕ} 5 0 =
    (first_of (claim (order_in ModeForWord false last_command) clock (rack last_command (five ∷ []))
    (asked_of_one (order_in ModeForWord false last_command) last_command five
    (starts_by ModeForWord false last_command refl refl refl)
    (record { row = refl; last = refl; broadcast = refl }) (λ one. here refl) one_is_different
    five_is_idle (five_is_ready 0x2C12 refl refl))
    ).terminals).1 0 (omega arith) in
    omega arith

-- ---- any legal command

record AnyRow (order : Order) : Type 0 where
  legal : (asked_of order.first).illegal ≡ false
  broadcast : is_broadcast order.first ≡ order.broadcast

-- a command to send, with data behind it
abbrev wrong_row : Desk
wrong_row = desk_of 0 (0x2C62 ∷ 0x1111 ∷ 0x2222 ∷ [])

a_command_of_another_row_would_do : ClaimFor AnyRow → ⊥
unfolding told
a_command_of_another_row_would_do claim =
    let differs : ◌≡◌ {A = ℕ} 2 0 =
    (claim (order_in ToTerminal false wrong_row) clock (rack wrong_row (five ∷ []))
    (asked_of_one (order_in ToTerminal false wrong_row) wrong_row five
    (starts_by ToTerminal false wrong_row refl refl refl)
    (record { legal = refl; broadcast = refl }) (λ one. here refl) one_is_different
    five_is_idle (five_is_ready 0x2C62 refl refl))
    ).code in
    omega arith
