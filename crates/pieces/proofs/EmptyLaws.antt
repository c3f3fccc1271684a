-- A call over no bytes leaves the run as it was. It needs bytes, and where none come it is over.
-- Assumes nothing.
use mathlib.Core.Path.{◌≡◌, refl, ap, ◌∙◌}
use mathlib.Core.Logic.{◌≢◌}
use mathlib.Core.Bool.{Bool, true, false}
use mathlib.Core.List.{List, []}
use Prim.Native.Nat.{ℕ, ◌≤◌}
use native.Mathlib.Omega.{arith}
use lib.ListN.{length}
use lib.Seq.{drop-nil}
use Rattle.rules.proofs.Clash.{clash}
use Rattle.lines.specs.Written.{line_room}
use Rattle.pieces.specs.declared.stop.Stop.{Stop}
use Rattle.pieces.specs.declared.stop.Stop.TheVariants.{Going, Hungry, Full, Over}
use Rattle.pieces.specs.Course.{Met, taken, at_end, refused, Course, further_on}
use Rattle.pieces.specs.Steady.{Steady}
use Rattle.pieces.specs.AsCoded.Window.{
  Passed,
  stopping,
  stops_at,
  stopped_at,
  passing,
  turn,
  is_going,
  window_run,
}
use Rattle.pieces.proofs.StopLaws.{going_over, full_over, hungry_over}
use Rattle.pieces.proofs.TurnLaws.{call_keeps, by_turn}
use Rattle.pieces.proofs.EndLaws.{
  call_within,
  call_stops,
  last_call_waits_not,
  full_after_a_field,
}

module _ {Run : Type 0} (course : Course Run) {longest : ℕ} (steady : Steady course longest) where
  -- whatever the place, it is at the end
  nothing_met : (old : Run) (at : ℕ) → course.meets old [] at ≡ at_end
  nothing_met old at =
      steady.from_the_place old [] at
      ∙ ap (λ (bytes : List ℕ). further_on at (course.meets old bytes 0)) (drop-nil at)
      ∙ ap (further_on at) (steady.end_of_none old)

  -- a turn is full, or finds the end
  turn_of_none : (last : Bool) (Claim : Passed Run → Type 0) (old : Passed Run)
      → Claim (stopping Full old) → Claim (stops_at course 0 last old)
      → Claim (turn course [] last old)
  unfolding passing
  turn_of_none last Claim old full end =
      by_turn course [] last Claim old (λ _. full) (λ met is _. go met is)
    where
      go : (met : Met Run) → course.meets old.run [] old.at ≡ met
          → Claim (passing course met last old)
      go (taken next line new) is = absurd (clash (cc (nothing_met old.run old.at)))
      go at_end is = end
      go (refused number) is = absurd (clash (cc (nothing_met old.run old.at)))

  module _ (start : Run) (out : List ℕ) where
    pub empty_untouched : (last : Bool) → (window_run course start [] last out).run ≡ start
    empty_untouched last =
        call_keeps course [] last Untouched
        (λ old is same. turn_of_none last Untouched old same same) start out refl
      where
        Untouched : Passed Run → Type 0
        Untouched new = new.run ≡ start

    not_over : (window_run course start [] false out).stop ≢ Over
    unfolding stopped_at
    not_over =
        call_keeps course [] false Goes
        (λ old is _. turn_of_none false Goes old full_over hungry_over) start out going_over
      where
        Goes : Passed Run → Type 0
        Goes new = new.stop ≢ Over

    module _ (room : line_room ≤ length out) where
      -- no field was taken, so it is not full
      not_full : (last : Bool) → (window_run course start [] last out).stop ≢ Full
      not_full last is =
          absurd (omega (
            arith,
            full_after_a_field course steady [] last start out room is,
            call_within course steady [] last start out,
          ))

      -- it needs bytes
      pub empty_waits : (window_run course start [] false out).stop ≡ Hungry
      empty_waits =
          go (window_run course start [] false out).stop
          (call_stops course steady [] false start out (omega arith)) (not_full false) not_over
        where
          go : (stop : Stop) → is_going stop ≡ false → stop ≢ Full → stop ≢ Over → stop ≡ Hungry
          go Going stops full over = absurd (clash (cc))
          go Hungry stops full over = refl
          go Full stops full over = absurd (full refl)
          go Over stops full over = absurd (over refl)

      -- where none come, it is over
      pub empty_is_over : (window_run course start [] true out).stop ≡ Over
      empty_is_over =
          go (window_run course start [] true out).stop
          (call_stops course steady [] true start out (omega arith)) (not_full true)
          (last_call_waits_not course steady [] true refl start out)
        where
          go : (stop : Stop) → is_going stop ≡ false → stop ≢ Full → stop ≢ Hungry → stop ≡ Over
          go Going stops full waits = absurd (clash (cc))
          go Hungry stops full waits = absurd (waits refl)
          go Full stops full waits = absurd (full refl)
          go Over stops full waits = refl
