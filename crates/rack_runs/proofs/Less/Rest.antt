-- Terminals that are not idle: a message open, a strange status remembered, a memory that is not
-- whole, a state that is not fit. Each claim is false. Assumes nothing.
use Rattle.std.proofs.Common.{None, Some}
use mathlib.Core.Path.{◌≡◌, refl, ap}
use mathlib.Core.Bool.{Bool, true, false}
use mathlib.Core.List.{[], ◌∷◌}
use Prim.Native.Nat.{ℕ}
use native.Mathlib.Omega.{arith}
use lib.ListN.{length, replicate}
use Rattle.card.specs.Memory.{card_words, the_block}
use Rattle.queue.specs.Queue.{empty_queue}
use Rattle.message.specs.declared.state.OpenMessage.{OpenMessage}
use Rattle.terminal.specs.State.{Card, card, with_status, core_at_setup}
use Rattle.terminal.specs.Event.{word}
use Rattle.terminal.specs.Machine.{step}
use Rattle.terminal.specs.Fitness.{fit_card}
use Rattle.terminal_laws.specs.AtRest.{WholeAndFit, AtRest}
use Rattle.terminal_laws.specs.OwnStatus.{OwnStatus}
use Rattle.formats.specs.declared.row.Row.TheVariants.{ToTerminal, FromTerminal, ModeAlone}
use Rattle.exchange.specs.declared.order.Order.{Order}
use Rattle.controller.specs.State.{came, Desk}
use Rattle.controller.specs.Start.{order_in}
use Rattle.rack.specs.Segment.{command_word}
use Rattle.rack.specs.Bus.{rack, message}
use Rattle.rack.specs.Terminals.{Different, here}
use Rattle.rack.specs.Asked.{Ready, FitOrder}
use Rattle.rack_runs.proofs.Telling.{
  put,
  memory_of,
  terminal_of,
  five,
  nine,
  desk_of,
  clock,
  told,
}
use Rattle.rack_runs.proofs.Having.{
  starts_by,
  ready_by,
  one_is_different,
  two_are_different,
  first_of,
  others_of,
}
use Rattle.rack_runs.proofs.Ready.{five_is_idle, five_is_ready}
use Rattle.rack_runs.proofs.Less.Claim.{
  Starts,
  AllThere,
  Claim,
  asked_of_one,
  asked_of_two,
}

-- what is asked of each terminal may vary
abbrev ClaimOf : (Card → Type 0) → Type 0
ClaimOf Rests = Claim Starts FitOrder AllThere Different Rests Ready

abbrev to_five : Desk
to_five = desk_of 0 (0x2862 ∷ 0x1111 ∷ 0x2222 ∷ [])

abbrev order : Order
order = order_in ToTerminal false to_five

begins : Starts order to_five
unfolding told
begins = starts_by ToTerminal false to_five refl refl refl

-- ---- a message may be open

idle_is_not_open : {message : OpenMessage} → None ≡ Some message → ⊥
idle_is_not_open same = cc

record EvenOpen (terminal : Card) : Type 0 where
  whole_and_fit : WholeAndFit terminal
  status : OwnStatus terminal.core

-- station 9 has heard a command of its own, and now hears one to station 5
unfoldable open_nine : Card
open_nine = (step (word (command_word false false 0x4862 0)) nine).card

an_open_message_would_stay_open : ClaimOf EvenOpen → ⊥
unfolding told open_nine
an_open_message_would_stay_open claim =
    let closes =
    first_of (others_of (claim order clock (rack to_five (five ∷ open_nine ∷ []))
    (asked_of_two order to_five five open_nine begins (record { row = refl; broadcast = refl })
    (λ one. here refl) (two_are_different refl)
    (record { whole_and_fit = five_is_idle.rest.whole_and_fit; status = refl })
    (record { whole_and_fit = record { whole_memory = refl; fit = refl }; status = refl })
    (five_is_ready 0x2862 refl refl) tt)
    ).terminals) in
    idle_is_not_open (ap (λ (any : Card). any.core.message) closes)

-- to the station that it goes to an open message is no hindrance: a command that is not joined
-- supersedes it
unfoldable open_five : Card
open_five = (step (word (command_word false false 0x2862 0)) five).card

its_own_command_supersedes :
    (message clock (rack to_five (open_five ∷ []))).desk.state.result ≡ came 0 false
unfolding told open_five
its_own_command_supersedes = refl

-- ---- any status may be remembered

-- "transmit status word" sends it as it is
unfoldable strange_five : Card
strange_five =
    card (with_status 0x4800 (core_at_setup 5 (the_block 1) 0)) empty_queue (memory_of 5 1 2 [])

abbrev send_status : Desk
send_status = desk_of 3 (0x2C02 ∷ [])

a_strange_status_would_be_taken : ClaimOf AtRest → ⊥
unfolding told strange_five
a_strange_status_would_be_taken claim =
    let differs : ◌≡◌ {A = ℕ} 5 0 =
    (claim (order_in ModeAlone false send_status) clock (rack send_status (strange_five ∷ []))
    (asked_of_one (order_in ModeAlone false send_status) send_status strange_five
    (starts_by ModeAlone false send_status refl refl refl)
    (record { row = refl; broadcast = refl }) (λ one. here refl) one_is_different
    (record { whole_and_fit = record { whole_memory = refl; fit = refl }; idle = refl })
    (ready_by refl refl refl))
    ).code in
    omega arith

-- ---- the memory may have any length

record AnyMemory (terminal : Card) : Type 0 where
  fit : fit_card terminal ≡ true
  idle : terminal.core.message ≡ None
  status : OwnStatus terminal.core

-- a card of four blocks sends no words
unfoldable small_five : Card
small_five = terminal_of 5 1 0 (put 1 35 (2 ∷ []) (replicate 256 5))

abbrev from_five : Desk
from_five = desk_of 1 (0x2C62 ∷ [])

a_memory_that_is_not_whole_would_send : ClaimOf AnyMemory → ⊥
unfolding told small_five
a_memory_that_is_not_whole_would_send claim =
    let differs : ◌≡◌ {A = ℕ} 3 0 =
    (claim (order_in FromTerminal false from_five) clock (rack from_five (small_five ∷ []))
    (asked_of_one (order_in FromTerminal false from_five) from_five small_five
    (starts_by FromTerminal false from_five refl refl refl)
    (record { row = refl; broadcast = refl }) (λ one. here refl) one_is_different
    (record { fit = refl; idle = refl; status = refl }) (ready_by refl refl refl))
    ).code in
    omega arith

-- ---- fit or not

record AnyState (terminal : Card) : Type 0 where
  whole_memory : length terminal.ram ≡ card_words
  idle : terminal.core.message ≡ None
  status : OwnStatus terminal.core

-- flags go up to 63
unfoldable unfit_five : Card
unfit_five = terminal_of 5 1 64 (memory_of 5 1 2 [])

an_unfit_state_would_become_fit : ClaimOf AnyState → ⊥
unfolding told unfit_five
an_unfit_state_would_become_fit claim =
    let fit : ◌≡◌ {A = Bool} false true =
    (first_of (claim order clock (rack to_five (unfit_five ∷ []))
    (asked_of_one order to_five unfit_five begins (record { row = refl; broadcast = refl })
    (λ one. here refl) one_is_different
    (record { whole_memory = refl; idle = refl; status = refl }) (ready_by refl refl refl))
    ).terminals).0.rest.whole_and_fit.fit in
    cc
