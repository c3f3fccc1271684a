-- A message whose words given leave terminals idle or waiting, with one reply at the most: behind
-- the next turn all are idle, and it ends with the one behind that. Assumes nothing.
use mathlib.Core.Bool.{Bool}
use mathlib.Core.List.{List, [], ◌∷◌}
use Prim.Native.Nat.{ℕ, suc, ◌≤◌}
use native.Mathlib.Omega.{arith}
use lib.ListN.{length, length-append}
use Rattle.bus.specs.Command.{address_of}
use Rattle.rack.specs.Segment.{Spoken}
use Rattle.rack.specs.Hearing.{Stamps}
use Rattle.rack.specs.Bus.{Rack, turn, replies_to, next_of, behind_next}
use Rattle.rack.specs.Terminals.{Each, Different}
use Rattle.rack.specs.Asked.{IsIdle}
use Rattle.rack.proofs.Desk.Late.{Late}
use Rattle.rack.proofs.Desk.Nearer.{turn_late, late_still}
use Rattle.rack.proofs.Lists.Each.{each_so, each_after}
use Rattle.rack.proofs.Ending.Proper.{
  AllProper,
  next_proper,
  later_proper,
  joined_proper,
  replies_proper,
}
use Rattle.rack.proofs.Ending.Few.{one_replies}
use Rattle.rack.proofs.Ending.Waits.{IdleOrWaits}
use Rattle.rack.proofs.Ending.Second.{SettledThen, settled_then}
use Rattle.rack.proofs.Ending.Comes.{Comes, behind_turn, then_waiting, comes}
use Rattle.rack.proofs.Ending.Settled.{settled_comes}

none_behind : (waiting : List Spoken) → length waiting ≤ 1 → length (behind_next waiting) ≤ 0
none_behind [] few = omega arith
none_behind (next ∷ later) few = omega arith

module _ (more : ℕ) (line : Bool) (clock : ℕ → Stamps) (first : ℕ) (waiting : List Spoken)
    (old : Rack) (kept : Each (IdleOrWaits line first) old.terminals)
    (proper : AllProper waiting) (few : length waiting ≤ 1)
    (different : Different old.terminals) (late : Late line 2 old.desk) where
  abbrev stamps : Stamps
  stamps = clock (suc more)

  settled : Each (λ terminal. SettledThen line stamps first terminal (next_of waiting))
      old.terminals
  settled =
      each_so (λ terminal is. settled_then line stamps first terminal (next_proper proper) is) kept

  all_idle : Each IsIdle (behind_turn (suc more) line clock waiting old).terminals
  unfolding turn
  all_idle =
      each_after line stamps (next_of waiting) (each_so (λ terminal is. is.settled.idle) settled)

  late_then : Late line 1 (behind_turn (suc more) line clock waiting old).desk
  unfolding turn
  late_then = turn_late line 1 stamps (next_of waiting) old.desk late

  few_then : length (then_waiting (suc more) line clock waiting old) ≤ 1
  few_then =
      omega (
        arith,
        length-append (behind_next waiting)
            (replies_to line stamps (next_of waiting) old.terminals),
        none_behind waiting few,
        one_replies line stamps (next_of waiting) (address_of first) different
            (each_so (λ terminal is. is.elsewhere) settled),
      )

  pub ends_waiting : Comes (suc (suc more)) line clock waiting old
  ends_waiting =
      comes (suc more) line clock waiting old all_idle
      (λ not_yet.
      settled_comes more line clock (then_waiting (suc more) line clock waiting old)
      (behind_turn (suc more) line clock waiting old) all_idle
      (joined_proper (later_proper proper)
      (replies_proper line stamps (next_of waiting)
      (each_so (λ terminal is. is.settled.proper) settled)))
      (late_still (omega arith) late_then)
      (omega (arith, few_then)))
