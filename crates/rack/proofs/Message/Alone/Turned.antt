-- What a command that is given alone makes of an idle terminal: it takes the command, or is as
-- before. Assumes nothing.
use Rattle.std.proofs.Common.{None, Some}
use mathlib.Core.Path.{◌≡◌, refl, ap, sym, subst, ◌∙◌}
use mathlib.Core.Bool.{Bool, true, false, cond}
use mathlib.Core.List.{List}
use Prim.Native.Nat.{ℕ}
use lib.ListN.{length}
use Rattle.std.proofs.Common.{Some, None}
use Rattle.bus.specs.Command.{address_of, is_broadcast}
use Rattle.message.specs.Asked.{asked_of}
use Rattle.terminal.specs.State.{Card}
use Rattle.terminal.specs.Event.{Outcome, quietly}
use Rattle.rack.specs.Segment.{segment, Spoken, Nothing, Given}
use Rattle.rack.specs.Hearing.{Stamps, turn_of, said_after}
use Rattle.rack.specs.Asked.{IsIdle, ReadyFor, is_own, taken_alone}
use Rattle.rack.proofs.Terminal.Took.{FitCommand, Took}
use Rattle.rack.proofs.Terminal.Own.{own_at_home, own_is_home}
use Rattle.rack.proofs.Terminal.Quiet.{quiet_says_nothing, quiet_at_given}
use Rattle.rack.proofs.Terminal.OneCommand.{command_is_taken}
use Rattle.rack.proofs.Lists.Speaker.{SilentElsewhere}

abbrev pub given_alone : ℕ → List ℕ → Spoken
given_alone first words = Given (segment first None words)

module _ (line : Bool) (stamps : Stamps) (first : ℕ) (words : List ℕ) where
  abbrev after : Card → Outcome
  after old = turn_of line stamps (given_alone first words) old

  pub data Turned (old : Card) : Type 0 where
    took : is_own first old ≡ true → Took first words old (after old) → Turned old
    stays : is_own first old ≡ false → after old ≡ quietly old → Turned old

  pub turned : FitCommand first → length words ≡ (asked_of first).takes
      → (old : Card) → IsIdle old → ReadyFor line (taken_alone first old) old → Turned old
  turned fit full old idle ready = by_own (is_own first old) refl ready
    where
      by_own : (own : Bool) → is_own first old ≡ own
          → ReadyFor line (cond own (Some first) None) old → Turned old
      by_own true own ready =
          took own (command_is_taken line stamps first words old fit full idle own ready)
      by_own false strange ready =
          stays strange
          (quiet_at_given line stamps old idle.rest.idle (segment first None words)
          (record { first = strange; second = tt }))

  -- idle again either way
  pub turned_idle : (old : Card) → IsIdle old → Turned old → IsIdle (after old).card
  turned_idle old idle (took own done) = done.idle
  turned_idle old idle (stays strange quiet) =
      subst (λ (any : Outcome). IsIdle any.card) (sym quiet) idle

  -- of a broadcast nothing comes back
  pub turned_silent : is_broadcast first ≡ true → (old : Card) → Turned old
      → said_after (after old) ≡ Nothing
  turned_silent to_all_lem old (took own done) = done.silent to_all_lem
  turned_silent to_all_lem old (stays strange quiet) =
      ap (λ (any : Outcome). said_after any) quiet ∙ quiet_says_nothing old

  -- ---- a command to one station

  module _ (to_one : is_broadcast first ≡ false) (old : Card) where
    -- it is taken there
    pub turned_took : Turned old → old.core.station ≡ address_of first
        → Took first words old (after old)
    turned_took (took own done) home = done
    turned_took (stays strange quiet) home =
        let own : is_own first old ≡ true = own_at_home first old to_one home in
        cc

    -- and nothing comes from elsewhere
    pub turned_elsewhere : Turned old
        → SilentElsewhere line stamps (given_alone first words) (address_of first) old
    turned_elsewhere (took own done) other = absurd (other (own_is_home first old to_one own))
    turned_elsewhere (stays strange quiet) other =
        ap (λ (any : Outcome). said_after any) quiet ∙ quiet_says_nothing old
