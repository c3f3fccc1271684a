-- A message that does not start: nothing changes, and the claim that it ends is false. Assumes
-- nothing.
use mathlib.Core.Path.{◌≡◌, refl}
use mathlib.Core.Bool.{false}
use mathlib.Core.List.{[], ◌∷◌}
use lib.ListN.{replicate}
use Rattle.formats.specs.declared.row.Row.TheVariants.{ToTerminal}
use Rattle.exchange.specs.declared.order.Order.{Order}
use Rattle.controller.specs.State.{Desk, desk, at_setup}
use Rattle.controller.specs.Start.{order_in}
use Rattle.controller.specs.Heard.{ended}
use Rattle.controller.specs.Actions.{start_action}
use Rattle.rack.specs.Bus.{rack, message}
use Rattle.rack.specs.Terminals.{Different, here}
use Rattle.rack.specs.Asked.{IsIdle, Ready, FitOrder}
use Rattle.rack_runs.proofs.Telling.{five, desk_of, clock, told}
use Rattle.rack_runs.proofs.Having.{one_is_different}
use Rattle.rack_runs.proofs.Ready.{five_is_idle, five_is_ready}
use Rattle.rack_runs.proofs.Less.Claim.{AllThere, Claim, asked_of_one}

-- two words to station 5
abbrev to_five : Desk
to_five = desk_of 0 (0x2862 ∷ 0x1111 ∷ 0x2222 ∷ [])

-- ---- five reasons

abbrev NothingChanges : Desk → Type 0
NothingChanges old = message clock (rack old (five ∷ [])) ≡ rack old (five ∷ [])

-- the message has started already
unfoldable already_open : Desk
already_open = (start_action to_five).desk

where_one_is_open_none_starts : NothingChanges already_open
unfolding told already_open
where_one_is_open_none_starts = refl

-- the message has ended with code 2
where_none_is_due_none_starts : NothingChanges (ended 2 false to_five).desk
unfolding told
where_none_is_due_none_starts = refl

where_no_start_is_left_none_starts : NothingChanges (desk (at_setup 192 0) to_five.ram)
unfolding told
where_no_start_is_left_none_starts = refl

-- 6
a_code_that_the_table_lacks_starts_none : NothingChanges (desk (at_setup 198 1) to_five.ram)
unfolding told
a_code_that_the_table_lacks_starts_none = refl

a_memory_of_another_length_starts_none : NothingChanges (desk (at_setup 192 1) (replicate 256 0))
unfolding told
a_memory_of_another_length_starts_none = refl

-- ---- the order is that of the desk, and may not start

abbrev EvenUnstarted : Order → Desk → Type 0
EvenUnstarted order old = order ≡ order_in order.row order.broadcast old

a_message_that_is_open_would_end :
    Claim EvenUnstarted FitOrder AllThere Different IsIdle Ready → ⊥
unfolding told already_open
a_message_that_is_open_would_end claim =
    let over =
    (claim (order_in ToTerminal false already_open) clock (rack already_open (five ∷ []))
    (asked_of_one (order_in ToTerminal false already_open) already_open five refl
    (record { row = refl; broadcast = refl }) (λ one. here refl) one_is_different
    five_is_idle (five_is_ready 0x2862 refl refl))
    ).over in
    cc
