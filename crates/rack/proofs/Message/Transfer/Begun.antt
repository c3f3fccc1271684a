-- What the commands of a transfer make of an idle terminal: the transmitter has replied, a receiver
-- waits for the words, any other is as before. Assumes nothing.
use Rattle.std.proofs.Common.{None, Some}
use mathlib.Core.Path.{◌≡◌, refl, ap, ◌∙◌}
use mathlib.Core.Bool.{Bool, true, false, cond}
use mathlib.Core.List.{[]}
use Prim.Native.Nat.{ℕ}
use Rattle.std.proofs.Common.{Some, None}
use Rattle.bus.specs.Command.{address_of, is_broadcast}
use Rattle.terminal.specs.State.{Card}
use Rattle.terminal.specs.Event.{Outcome, quietly}
use Rattle.formats.specs.declared.row.Row.TheVariants.{Between}
use Rattle.rack.specs.Segment.{segment}
use Rattle.rack.specs.Hearing.{Stamps, turn_of, said_after}
use Rattle.rack.specs.Asked.{IsIdle, ReadyFor, FitTransfer, is_own, taken_of}
use Rattle.rack.proofs.Terminal.Took.{Took, Waits}
use Rattle.rack.proofs.Terminal.Own.{own_at_home, own_is_home}
use Rattle.rack.proofs.Terminal.Quiet.{quiet_says_nothing, quiet_at_given}
use Rattle.rack.proofs.Terminal.BothEnds.{commands_of, transmitter_took, receiver_waits}
use Rattle.rack.proofs.Lists.Each.{KeepsStation}
use Rattle.rack.proofs.Lists.Speaker.{SilentElsewhere}

module _ (line : Bool) (stamps : Stamps) (first second : ℕ) where
  abbrev after : Card → Outcome
  after old = turn_of line stamps (commands_of first second) old

  pub data Begun (old : Card) : Type 0 where
    sends : is_own second old ≡ true → Took second [] old (after old) → Begun old
    waits : is_own second old ≡ false → is_own first old ≡ true
        → Waits line first second old (after old) → Begun old
    stays : is_own second old ≡ false → is_own first old ≡ false → after old ≡ quietly old
        → Begun old

  pub begun : FitTransfer first second → (old : Card) → IsIdle old
      → ReadyFor line (taken_of Between first second old) old → Begun old
  begun fit old idle ready =
      by_own (is_own second old) refl (is_own first old) refl ready
    where
      by_own : (own_second : Bool) → is_own second old ≡ own_second
          → (own_IsFirst : Bool) → is_own first old ≡ own_IsFirst
          → ReadyFor line (cond own_second (Some second) (cond own_IsFirst (Some first) None)) old
          → Begun old
      by_own true own own_IsFirst is ready =
          sends own (transmitter_took line stamps first second fit old idle own ready)
      by_own false strange true own ready =
          waits strange own (receiver_waits line stamps first second fit old idle strange own ready)
      by_own false strange false strange_first ready =
          stays strange strange_first
          (quiet_at_given line stamps old idle.rest.idle (segment first (Some second) [])
          (record { first = strange_first; second = strange }))

  pub begun_station : (old : Card) → Begun old
      → KeepsStation line stamps (commands_of first second) old
  begun_station old (sends own took) = took.station
  begun_station old (waits strange own waiting) = waiting.station
  begun_station old (stays strange strange_first quiet) =
      ap (λ (any : Outcome). any.card.core.station) quiet

  -- ---- the second command is to one station

  module _ (to_one : is_broadcast second ≡ false) (old : Card) where
    -- it is taken there
    pub begun_took : Begun old → old.core.station ≡ address_of second
        → Took second [] old (after old)
    begun_took (sends own took) home = took
    begun_took (waits strange own waiting) home =
        let never : is_own second old ≡ true = own_at_home second old to_one home in
        cc
    begun_took (stays strange strange_first quiet) home =
        let never : is_own second old ≡ true = own_at_home second old to_one home in
        cc

    -- and nothing comes from elsewhere
    pub begun_elsewhere : Begun old
        → SilentElsewhere line stamps (commands_of first second) (address_of second) old
    begun_elsewhere (sends own took) other = absurd (other (own_is_home second old to_one own))
    begun_elsewhere (waits strange own waiting) other = waiting.silent
    begun_elsewhere (stays strange strange_first quiet) other =
        ap (λ (any : Outcome). said_after any) quiet ∙ quiet_says_nothing old
