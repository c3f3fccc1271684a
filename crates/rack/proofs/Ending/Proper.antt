-- Replies as terminals give them: the status has the address of the one who says it. An idle
-- terminal hears them without effect, and what a turn brings are such replies. Assumes nothing.
use Rattle.std.proofs.Common.{None}
use mathlib.Core.Path.{◌≡◌}
use mathlib.Core.Bool.{Bool}
use mathlib.Core.List.{List, [], ◌∷◌, ◌++◌}
use Prim.Native.Nat.{ℕ, ◌≤◌}
use Rattle.rules.proofs.Choices.{by_test}
use Rattle.bus.specs.Limits.{last_station}
use Rattle.bus.specs.Command.{address_of}
use Rattle.terminal.specs.State.{Card}
use Rattle.terminal.specs.Event.{Outcome, quietly}
use Rattle.rack.specs.Segment.{Segment, segment, Spoken, Nothing, Said}
use Rattle.rack.specs.Hearing.{Stamps, turn_of, said_after}
use Rattle.rack.specs.Bus.{
  comes_before,
  placed,
  with_reply,
  replies_to,
  next_of,
  behind_next,
}
use Rattle.rack.specs.Terminals.{Each}
use Rattle.rack.specs.Asked.{IsIdle}
use Rattle.rack.proofs.Terminal.Quiet.{quiet_at_nothing, quiet_at_reply}

-- nothing, or a reply
pub data Proper : Spoken → Type 0 where
  silent : Proper Nothing
  replies : {station status : ℕ} {words : List ℕ} → address_of status ≡ station
      → station ≤ last_station → Proper (Said station (segment status None words))

pub data AllProper : List Spoken → Type 0 where
  none : AllProper []
  one_more : {next : Spoken} {later : List Spoken} → Proper next → AllProper later
      → AllProper (next ∷ later)

-- a terminal behind a turn: idle again, and what it says is proper
pub record Settled (outcome : Outcome) : Type 0 where
  pub idle : IsIdle outcome.card
  pub proper : Proper (said_after outcome)

pub proper_is_unheard : (line : Bool) (stamps : Stamps) {spoken : Spoken} (old : Card)
    → Proper spoken → IsIdle old → turn_of line stamps spoken old ≡ quietly old
proper_is_unheard line stamps old silent idle = quiet_at_nothing line stamps old idle.rest.idle
proper_is_unheard line stamps old (replies {station} {status} {words} home low) idle =
    quiet_at_reply line stamps old idle.rest.idle station status words home low

-- ---- those that wait

pub next_proper : {waiting : List Spoken} → AllProper waiting → Proper (next_of waiting)
next_proper none = silent
next_proper (one_more first others) = first

pub later_proper : {waiting : List Spoken} → AllProper waiting → AllProper (behind_next waiting)
later_proper none = none
later_proper (one_more first others) = others

pub joined_proper : {waiting others : List Spoken} → AllProper waiting → AllProper others
    → AllProper (waiting ++ others)
joined_proper none proper = proper
joined_proper (one_more first rest) proper = one_more first (joined_proper rest proper)

-- ---- those that a turn brings

placed_proper : (station : ℕ) (said : Segment) {others : List Spoken} → Proper (Said station said)
    → AllProper others → AllProper (placed station said others)
unfolding placed
placed_proper station said proper none = one_more proper none
placed_proper station said proper (one_more {next} {later} first rest) =
    by_test AllProper (comes_before station next)
    (λ _. one_more proper (one_more first rest))
    (λ _. one_more first (placed_proper station said proper rest))

with_proper : {spoken : Spoken} {others : List Spoken} → Proper spoken → AllProper others
    → AllProper (with_reply spoken others)
with_proper silent proper = proper
with_proper (replies {station} {status} {words} home low) proper =
    placed_proper station (segment status None words) (replies home low) proper

pub replies_proper : (line : Bool) (stamps : Stamps) (spoken : Spoken) {terminals : List Card}
    → Each (λ terminal. Proper (said_after (turn_of line stamps spoken terminal))) terminals
    → AllProper (replies_to line stamps spoken terminals)
unfolding replies_to
replies_proper line stamps spoken Each.nobody = none
replies_proper line stamps spoken (Each.each proper rest) =
    with_proper proper (replies_proper line stamps spoken rest)
