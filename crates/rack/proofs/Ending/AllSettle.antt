-- A message whose words given leave all terminals idle, with two replies at the most, ends within
-- three turns. Assumes nothing.
use mathlib.Core.Bool.{Bool}
use mathlib.Core.List.{[], ◌∷◌}
use Prim.Native.Nat.{ℕ, suc, ◌≤◌}
use native.Mathlib.Omega.{arith}
use lib.ListN.{length}
use Rattle.rack.specs.Segment.{Segment, Given}
use Rattle.rack.specs.Hearing.{Stamps, turn_of}
use Rattle.rack.specs.Bus.{Rack, turn, replies_to}
use Rattle.rack.specs.Terminals.{Each}
use Rattle.rack.specs.Asked.{IsIdle}
use Rattle.rack.proofs.Desk.Late.{Late}
use Rattle.rack.proofs.Desk.Nearer.{turn_late, late_still}
use Rattle.rack.proofs.Lists.Each.{each_so, each_after}
use Rattle.rack.proofs.Ending.Proper.{Settled, replies_proper}
use Rattle.rack.proofs.Ending.Comes.{Comes, behind_turn, then_waiting, comes}
use Rattle.rack.proofs.Ending.Settled.{settled_comes}

module _ (more : ℕ) (line : Bool) (clock : ℕ → Stamps) (said : Segment) (old : Rack)
    (settled : Each (λ terminal.
    Settled (turn_of line (clock (suc (suc more))) (Given said) terminal)) old.terminals)
    (few : length (replies_to line (clock (suc (suc more))) (Given said) old.terminals) ≤ 2)
    (late : Late line 3 old.desk) where
  abbrev stamps : Stamps
  stamps = clock (suc (suc more))

  all_idle : Each IsIdle (behind_turn (suc (suc more)) line clock (Given said ∷ []) old).terminals
  unfolding turn
  all_idle =
      each_after line stamps (Given said) (each_so (λ terminal is. is.idle) settled)

  late_then : Late line 2 (behind_turn (suc (suc more)) line clock (Given said ∷ []) old).desk
  unfolding turn
  late_then = turn_late line 2 stamps (Given said) old.desk late

  pub ends_settled : Comes (suc (suc (suc more))) line clock (Given said ∷ []) old
  ends_settled =
      comes (suc (suc more)) line clock (Given said ∷ []) old all_idle
      (λ not_yet.
      settled_comes (suc more) line clock
      (then_waiting (suc (suc more)) line clock (Given said ∷ []) old)
      (behind_turn (suc (suc more)) line clock (Given said ∷ []) old) all_idle
      (replies_proper line stamps (Given said) (each_so (λ terminal is. is.proper) settled))
      (late_still (omega arith) late_then)
      (omega (arith, few)))
