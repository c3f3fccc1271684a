-- The replies that one silence brings go out by rising station, whatever they say: `replies_rise`.
-- Assumes nothing.
use mathlib.Core.Bool.{Bool}
use mathlib.Core.List.{List, [], ◌∷◌}
use Prim.Native.Nat.{ℕ, ◌≤◌}
use native.Mathlib.Decide.{dec_lt}
use native.Mathlib.Omega.{arith}
use borrow.Author.Tests.{lt-ltb, le-ltb}
use Rattle.terminal.specs.State.{Card}
use Rattle.rack.specs.Segment.{Segment, Spoken, Nothing, Given, Said}
use Rattle.rack.specs.Hearing.{Stamps, turn_of, said_after}
use Rattle.rack.specs.Bus.{placed, with_reply, replies_to}

pub data Rising : List Spoken → Type 0 where
  none : Rising []
  one : (station : ℕ) (said : Segment) → Rising (Said station said ∷ [])
  before : (station other : ℕ) (said next : Segment) (later : List Spoken) → station ≤ other
      → Rising (Said other next ∷ later) → Rising (Said station said ∷ Said other next ∷ later)

module _ (station : ℕ) (said : Segment) where
  -- placed behind a lower one
  placed_behind : (lower : ℕ) (first : Segment) (later : List Spoken) → lower ≤ station
      → Rising (Said lower first ∷ later) → Rising (Said lower first ∷ placed station said later)
  unfolding placed
  placed_behind lower first [] less rising =
      before lower station first said [] less (one station said)
  placed_behind lower first (Nothing ∷ later) less rising = elim rising [ ]
  placed_behind lower first (Given next ∷ later) less rising = elim rising [ ]
  placed_behind lower first (Said other next ∷ later) less (before _ _ _ _ _ above rising) =
      elim (dec_lt station other) [
        | yes under ↦
            rw (lt-ltb station other under)
            (before lower station first said (Said other next ∷ later) less
            (before station other said next later (omega arith) rising))
        | no over ↦
            rw (le-ltb station other (omega arith))
            (before lower other first next (placed station said later) above
            (placed_behind other next later (omega arith) rising))
      ]

  -- before a higher one, or behind
  placed_so : (other : ℕ) (next : Segment) (later : List Spoken)
      → Rising (Said other next ∷ later) → Rising (placed station said (Said other next ∷ later))
  unfolding placed
  placed_so other next later rising =
      elim (dec_lt station other) [
        | yes under ↦
            rw (lt-ltb station other under)
            (before station other said next later (omega arith) rising)
        | no over ↦
            rw (le-ltb station other (omega arith))
            (placed_behind other next later (omega arith) rising)
      ]

  placed_rises : {others : List Spoken} → Rising others → Rising (placed station said others)
  unfolding placed
  placed_rises none = one station said
  placed_rises (one other next) = placed_so other next [] (one other next)
  placed_rises (before other higher next second later above rising) =
      placed_so other next (Said higher second ∷ later)
      (before other higher next second later above rising)

with_reply_rises : (spoken : Spoken) {others : List Spoken} → Rising others
    → Rising (with_reply spoken others)
with_reply_rises Nothing rising = rising
with_reply_rises (Given said) rising = rising
with_reply_rises (Said station said) rising = placed_rises station said rising

pub replies_rise : (line : Bool) (stamps : Stamps) (spoken : Spoken) (terminals : List Card)
    → Rising (replies_to line stamps spoken terminals)
unfolding replies_to
replies_rise line stamps spoken [] = none
replies_rise line stamps spoken (terminal ∷ terminals) =
    with_reply_rises (said_after (turn_of line stamps spoken terminal))
    (replies_rise line stamps spoken terminals)
