-- Own commands: one to a single station is own there and nowhere else; a status of another station
-- is none. Assumes nothing.
use mathlib.Core.Path.{◌≡◌, refl, sym, ◌∙◌}
use mathlib.Core.Logic.{◌≢◌}
use mathlib.Core.Bool.{Bool, true, false}
use Prim.Native.Nat.{ℕ, ◌≤◌}
use native.Mathlib.Omega.{arith}
use lib.Dec.{eqb}
use borrow.Author.Tests.{eq-eqb, ne_eqb, eqb-true}
use Rattle.bus.specs.Command.{address_of, is_broadcast}
use Rattle.bus.specs.Limits.{last_station}
use Rattle.message.specs.Words.{own_command}
use Rattle.terminal.specs.State.{Card}
use Rattle.terminal_laws.proofs.FitParts.{fit_card_parts, fit_core_parts}
use Rattle.rack.specs.Asked.{IsIdle, is_own}

-- address 31 is no terminal's
pub idle_station : (old : Card) → IsIdle old → old.core.station ≤ last_station
idle_station old idle =
    (fit_core_parts old.core (fit_card_parts old idle.rest.whole_and_fit.fit).core).station

module _ (command : ℕ) (old : Card) (to_one : is_broadcast command ≡ false) where
  pub own_at_home : old.core.station ≡ address_of command → is_own command old ≡ true
  unfolding own_command
  own_at_home is = rw (eq-eqb (address_of command) old.core.station (sym is))

  pub strange_elsewhere : old.core.station ≢ address_of command → is_own command old ≡ false
  unfolding own_command
  strange_elsewhere other =
      rw (ne_eqb (address_of command) old.core.station (λ same. other (sym same)), to_one)

  pub own_is_home : is_own command old ≡ true → old.core.station ≡ address_of command
  unfolding own_command
  own_is_home own = go (eqb (address_of command) old.core.station) refl
    where
      go : (same : Bool) → eqb (address_of command) old.core.station ≡ same
          → old.core.station ≡ address_of command
      go true is = sym (eqb-true (address_of command) old.core.station is)
      go false is = let never : false ≡ true = rw (is, to_one) at own in cc

-- a status has the address of the one who says it
pub status_is_strange : (speaker status : ℕ) (old : Card) → address_of status ≡ speaker
    → speaker ≤ last_station → speaker ≢ old.core.station → is_own status old ≡ false
status_is_strange speaker status old is low other =
    strange_elsewhere status old (ne_eqb (address_of status) _ (λ same. omega (arith, is, low)))
    (λ home. other (sym is ∙ sym home))
