-- The loop of a call over a window: what is left of the turns leads from where it is to where the
-- whole call leads. Assumes nothing.
use mathlib.Core.Path.{◌≡◌, refl, sym, ap, ◌∙◌}
use mathlib.Core.Bool.{Bool, true, false}
use mathlib.Core.List.{List}
use Prim.Native.Nat.{ℕ, suc, ◌-◌, ◌≤◌, ◌<◌}
use native.Mathlib.Omega.{arith}
use lib.ListN.{length}
use Rattle.pieces.specs.declared.stop.Stop.{Stop}
use Rattle.pieces.specs.Course.{Course}
use Rattle.pieces.specs.AsCoded.Window.{Passed, is_going, turn, turns}
use Rattle.pieces.specs.AsCoded.Runner.{going_at, TurnsTaken}
use Rattle.pieces.proofs.StopLaws.{going_is}
use Rattle.pieces.proofs.TurnLaws.{one_turn, no_turns, stopped_stays}

-- from `old` on, so many turns lead where all of them lead from `start` on
module _ {Run : Type 0} (course : Course Run) (window : List ℕ) (last : Bool) (start : Passed Run)
    (all : ℕ) (old : Passed Run) (most : ℕ)
    (so_far : turns course most window last old ≡ turns course all window last start) where
  -- it has stopped
  pub leads_stopped : is_going old.stop ≡ false → old ≡ turns course all window last start
  leads_stopped stops = sym (stopped_stays course window last most old stops) ∙ so_far

  -- no turn is left
  pub leads_done : most ≤ 0 → old ≡ turns course all window last start
  leads_done none = sym (no_turns course window last most old none) ∙ so_far

  -- some turns at once, and a turn more
  pub leads_on : (room left next : ℕ) (new : Run) (made : Passed Run) → 0 < most
      → is_going old.stop ≡ true → room ≡ length old.out - old.put
      → TurnsTaken course window room most old.run old.at left new next
      → made ≡ turn course window last (going_at new next old.put old.out)
      → turns course (left - 1) window last made ≡ turns course all window last start
  leads_on room left next new made some goes is_room row is_made =
      let one : suc (left - 1) ≡ left = omega (arith, row.some_left some) in
      let as_old : Stop → Passed Run = λ stop.
      record { run = old.run; at = old.at; put = old.put; out = old.out; stop = stop } in
      one_turn course window last (left - 1) (going_at new next old.put old.out) made refl
      (sym is_made)
      ∙ ap (λ (any : ℕ). turns course any window last (going_at new next old.put old.out)) one
      ∙ row.leads last old.put old.out is_room
      ∙ ap (λ (stop : Stop). turns course most window last (as_old stop))
      (sym (going_is old.stop goes))
      ∙ so_far

-- ---- and the buffer stays as long as it was, where each turn leaves it as long

pub record Leads {Run : Type 0} (course : Course Run) (window : List ℕ) (last : Bool)
    (start : Passed Run) (all : ℕ) (old : Passed Run) (left : ℕ) : Type 0 where
  pub leads : turns course left window last old ≡ turns course all window last start
  pub out_as_long : length old.out ≡ length start.out

module _ {Run : Type 0} (course : Course Run) (window : List ℕ) (last : Bool) (start : Passed Run)
    (all : ℕ) (old : Passed Run) (most : ℕ)
    (so_far : Leads course window last start all old most) where
  pub leads_as_long : (room left next : ℕ) (new : Run) (made : Passed Run) → 0 < most
      → is_going old.stop ≡ true → room ≡ length old.out - old.put
      → TurnsTaken course window room most old.run old.at left new next
      → made ≡ turn course window last (going_at new next old.put old.out)
      → length made.out ≡ length old.out → Leads course window last start all made (left - 1)
  leads_as_long room left next new made some goes is_room row is_made same =
      record {
        leads =
            leads_on course window last start all old most so_far.leads room left next new made
            some goes is_room row is_made;
        out_as_long = same ∙ so_far.out_as_long;
      }
