-- A call that needs bytes leaves fewer in the window than the longest field has, so there is room
-- to read. Assumes nothing.
use mathlib.Core.Path.{◌≡◌, refl, sym, ap, ◌∙◌}
use mathlib.Core.Bool.{Bool, true, false, not, ◌&&◌}
use mathlib.Core.List.{List}
use Prim.Native.Nat.{ℕ, ◌+◌, ◌<◌}
use lib.ListN.{length}
use Rattle.rules.proofs.Halves.{second_of_both}
use Rattle.pieces.specs.declared.stop.Stop.TheVariants.{Hungry}
use Rattle.pieces.specs.Course.{Met, taken, at_end, refused, Course, may_go_on, waits}
use Rattle.pieces.specs.Steady.{Steady}
use Rattle.pieces.specs.AsCoded.Window.{Passed, stopped_at, stops_at, passing, window_run}
use Rattle.pieces.proofs.StopLaws.{going_hungry, full_hungry, hungry_over}
use Rattle.pieces.proofs.TurnLaws.{call_keeps, by_turn}

-- where no field is taken, the call waits only if bytes behind may change that
stops_waiting : {Run : Type 0} (course : Course Run) (number : ℕ) (last : Bool) (old : Passed Run)
    → (stops_at course number last old).stop ≡ Hungry → may_go_on number ≡ true
unfolding stopped_at
stops_waiting course number last old is_hungry = go (not last && may_go_on number) refl where
  go : (test : Bool) → (not last && may_go_on number) ≡ test → may_go_on number ≡ true
  go true is = second_of_both (not last) (may_go_on number) is
  go false is = absurd (hungry_over (sym (rw is at is_hungry)))

module _ {Run : Type 0} (course : Course Run) {longest : ℕ} (steady : Steady course longest) where
  pub hungry_few : (window : List ℕ) (last : Bool) (old : Run) (out : List ℕ)
      → (window_run course old window last out).stop ≡ Hungry
      → length window < (window_run course old window last out).at + longest
  unfolding passing
  hungry_few window last old out =
      call_keeps course window last Few
      (λ old' is few.
      by_turn course window last Few old' (λ _ same. absurd (full_hungry same))
      (λ met is' room. go old' met is'))
      old out (λ same. absurd (going_hungry same))
    where
      Few : Passed Run → Type 0
      Few new = new.stop ≡ Hungry → length window < new.at + longest

      go : (old : Passed Run) (met : Met Run) → course.meets old.run window old.at ≡ met
          → Few (passing course met last old)
      go old (taken next line new) is same = absurd (going_hungry same)
      go old at_end is same = steady.few_left old.run window old.at (ap waits is)
      go old (refused number) is same =
          steady.few_left old.run window old.at
          (ap waits is ∙ stops_waiting course number last old same)
