-- What is asked of a list of terminals, from tests that the checker computes, whatever the list.
-- Assumes nothing.
use Rattle.std.proofs.Common.{None, Option, Some}
use mathlib.Core.Path.{◌≡◌, refl}
use mathlib.Core.Bool.{Bool, true, false, cond, not, ◌&&◌, ◌||◌}
use mathlib.Core.List.{List, [], ◌∷◌}
use Prim.Native.Nat.{ℕ}
use lib.Dec.{eqb}
use lib.ListN.{length}
use borrow.Author.Tests.{eqb-true, eqb-false, not-true}
use Rattle.std.proofs.Common.{Option, Some, None}
use Rattle.rules.proofs.Halves.{first_of_both, second_of_both}
use Rattle.bus.specs.Command.{address_of}
use Rattle.card.specs.Memory.{card_words}
use Rattle.terminal.specs.State.{Card}
use Rattle.terminal.specs.Fitness.{fit_card}
use Rattle.rack.specs.Terminals.{Each, Different, OnBus, here, there}
use Rattle.rack.specs.Asked.{IsIdle, opened_for, ReadyFor}
use Rattle.rack_runs.proofs.Having.{idle_by, ready_by}
use Rattle.message.specs.declared.state.OpenMessage.{OpenMessage}

-- ---- each of them

unfoldable pub all_of : (Card → Bool) → List Card → Bool
all_of test [] = true
all_of test (terminal ∷ terminals) = test terminal && all_of test terminals

pub each_by : {Holds : Card → Type 0} (test : Card → Bool)
    → ((terminal : Card) → test terminal ≡ true → Holds terminal)
    → (terminals : List Card) → all_of test terminals ≡ true → Each Holds terminals
unfolding all_of
each_by test tells [] passed = Each.nobody
each_by test tells (terminal ∷ terminals) passed =
    Each.each
    (tells terminal (first_of_both (test terminal) (all_of test terminals) passed))
    (each_by test tells terminals (second_of_both (test terminal) (all_of test terminals) passed))

-- ---- idle

abbrev pub has_ended : Option OpenMessage → Bool
has_ended None = true
has_ended (Some message) = false

ended_is_idle : (message : Option OpenMessage) → has_ended message ≡ true → message ≡ None
ended_is_idle None ended = refl
ended_is_idle (Some message) ended = cc

unfoldable pub is_idle_card : Card → Bool
is_idle_card old =
    eqb (length old.ram) card_words
    && (fit_card old
    && (has_ended old.core.message
    && eqb (address_of old.core.status) old.core.station))

pub idle_card : (old : Card) → is_idle_card old ≡ true → IsIdle old
unfolding is_idle_card
idle_card old passed =
    let own : Bool = eqb (address_of old.core.status) old.core.station in
    let ended : Bool = has_ended old.core.message in
    let whole : Bool = eqb (length old.ram) card_words in
    let fit_and = second_of_both whole (fit_card old && (ended && own)) passed in
    let ended_and = second_of_both (fit_card old) (ended && own) fit_and in
    idle_by
    (eqb-true (length old.ram) card_words
    (first_of_both whole (fit_card old && (ended && own)) passed))
    (first_of_both (fit_card old) (ended && own) fit_and)
    (ended_is_idle old.core.message (first_of_both ended own ended_and))
    (eqb-true (address_of old.core.status) old.core.station
    (second_of_both ended own ended_and))

-- ---- ready for the command that it takes

unfoldable pub is_ready : Bool → Option ℕ → Card → Bool
is_ready line None old = true
is_ready line (Some command) old =
    not (opened_for command old).busy
    && (not (eqb (opened_for command old).block.0 (opened_for command old).table.0)
    && not (cond line old.core.shut.b old.core.shut.a))

pub ready_card : (line : Bool) (command : Option ℕ) (old : Card) → is_ready line command old ≡ true
    → ReadyFor line command old
unfolding is_ready
ready_card line None old passed = tt
ready_card line (Some command) old passed =
    let busy : Bool = (opened_for command old).busy in
    let table : Bool =
    eqb (opened_for command old).block.0 (opened_for command old).table.0 in
    let shut : Bool = cond line old.core.shut.b old.core.shut.a in
    let table_and = second_of_both (not busy) (not table && not shut) passed in
    ready_by
    (not-true busy (first_of_both (not busy) (not table && not shut) passed))
    (not-true table (first_of_both (not table) (not shut) table_and))
    (not-true shut (second_of_both (not table) (not shut) table_and))

-- ---- different stations

unfoldable pub are_different : List Card → Bool
are_different [] = true
are_different (terminal ∷ terminals) =
    all_of (λ other. not (eqb other.core.station terminal.core.station)) terminals
    && are_different terminals

pub different_by : (terminals : List Card) → are_different terminals ≡ true → Different terminals
unfolding are_different
different_by [] passed = Different.nobody
different_by (terminal ∷ terminals) passed =
    let apart : Card → Bool =
    λ other. not (eqb other.core.station terminal.core.station) in
    Different.each
    (each_by apart
    (λ other is. eqb-false other.core.station terminal.core.station
    (not-true (eqb other.core.station terminal.core.station) is))
    terminals (first_of_both (all_of apart terminals) (are_different terminals) passed))
    (different_by terminals
    (second_of_both (all_of apart terminals) (are_different terminals) passed))

-- ---- a station on the bus

unfoldable pub is_on : ℕ → List Card → Bool
is_on station [] = false
is_on station (terminal ∷ terminals) =
    eqb terminal.core.station station || is_on station terminals

pub on_bus_by : (station : ℕ) (terminals : List Card) → is_on station terminals ≡ true
    → OnBus station terminals
unfolding is_on
on_bus_by station [] passed = cc
on_bus_by station (terminal ∷ terminals) passed =
    by (eqb terminal.core.station station) refl (on_bus_by station terminals) passed where
      by : (this : Bool) → eqb terminal.core.station station ≡ this
          → (is_on station terminals ≡ true → OnBus station terminals)
          → (this || is_on station terminals) ≡ true → OnBus station (terminal ∷ terminals)
      by true is later any = here (eqb-true terminal.core.station station is)
      by false is later any = there (later any)
