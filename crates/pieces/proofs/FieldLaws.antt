-- A turn goes by what the code of a run answers of a place. Assumes nothing.
use mathlib.Core.Path.{◌≡◌, refl, ap, ◌∙◌}
use mathlib.Core.Bool.{Bool}
use mathlib.Core.List.{List}
use Prim.Native.Nat.{ℕ, ◌-◌, ◌≤◌, ◌<◌}
use lib.ListN.{length}
use Rattle.std.specs.Prelude.{Option, Some, None, Result, Ok, Err}
use Rattle.refusals.specs.declared.Refusal.{Refusal}
use Rattle.refusals.specs.Number.{number_of}
use Rattle.rules.proofs.Clash.{clash}
use Rattle.lines.specs.Written.{Put, put, line_room}
use Rattle.pieces.specs.declared.stop.Stop.{Stop}
use Rattle.pieces.specs.declared.stop.Stop.TheVariants.{Going, Full}
use Rattle.pieces.specs.Course.{Met, taken, at_end, refused, Course}
use Rattle.pieces.specs.AsCoded.Window.{
  Passed,
  passed,
  Stopped,
  stopped,
  stopped_at,
  stops_at,
  passing,
  turn,
}
use Rattle.pieces.specs.AsCoded.Runner.{FieldLeft, field_left, field_run, going_at}
use Rattle.pieces.proofs.TurnLaws as general

-- what two that are the same have the same
module _ {Run : Type 0} {one other : FieldLeft Run} (same : one ≡ other) where
  same_answer : one.answer ≡ other.answer
  same_answer = ap (λ (left : FieldLeft Run). left.answer) same

  same_run : one.run ≡ other.run
  same_run = ap (λ (left : FieldLeft Run). left.run) same

  same_page : one.page ≡ other.page
  same_page = ap (λ (left : FieldLeft Run). left.page) same

module _ {Run : Type 0} (course : Course Run) (window : List ℕ) (last : Bool) (old : Run)
    (at into : ℕ) (out : List ℕ) where
  -- without room for a line it stops
  pub turn_full : length out - into < line_room
      → passed old at (put into out) Full ≡ turn course window last (going_at old at into out)
  turn_full = general.turn_full course window last (going_at old at into out)

  module _ (enough : line_room ≤ length out - into) (answer : Result (Option ℕ) Refusal) (new : Run)
      (page : Put)
      (is : field_left answer new page
      ≡ field_run (course.meets old window at) old (put into out)) where
    by_met : (made : Passed Run)
        → ((met : Met Run) → field_left answer new page ≡ field_run met old (put into out)
        → made ≡ passing course met last (going_at old at into out))
        → made ≡ turn course window last (going_at old at into out)
    by_met made by =
        by (course.meets old window at) is
        ∙ general.turn_by course window last (going_at old at into out) enough refl

    -- a field is taken
    pub turn_takes : (next : ℕ) → answer ≡ Ok (Some next)
        → passed new next page Going ≡ turn course window last (going_at old at into out)
    unfolding field_run passing
    turn_takes next is_taken = by_met (passed new next page Going) go where
      go : (met : Met Run) → field_left answer new page ≡ field_run met old (put into out)
          → passed new next page Going ≡ passing course met last (going_at old at into out)
      go (taken next' line made) same =
          let is_next : next ≡ next' = cc (same_answer same) in
          rw (is_next, same_run same, same_page same)
      go at_end same = absurd (clash (cc (same_answer same)))
      go (refused number) same = absurd (clash (cc (same_answer same)))

    -- none is, by the number of a refusal or 0 for the end of the bytes
    module _ (number fields offset : ℕ) (stop : Stop) (page' : Put)
        (is_fields : fields ≡ course.fields new) (is_offset : offset ≡ course.offset new)
        (is_stopped : stopped page' stop
        ≡ stopped_at number last fields offset page.bytes page.next) where
      abbrev left : Passed Run
      left = passed new at page' stop

      abbrev same_left : Stopped → Passed Run
      same_left end = passed new at end.left end.stop

      stops : (met_number : ℕ) → number ≡ met_number → new ≡ old → page ≡ put into out
          → left ≡ stops_at course met_number last (going_at old at into out)
      stops met_number is_number is_new is_page =
          ap same_left is_stopped ∙ rw (is_number, is_fields, is_offset, is_page, is_new) refl

      pub turn_ends : number ≡ 0 → answer ≡ Ok None
          → left ≡ turn course window last (going_at old at into out)
      unfolding field_run passing
      turn_ends is_none is_end = by_met left go where
        go : (met : Met Run) → field_left answer new page ≡ field_run met old (put into out)
            → left ≡ passing course met last (going_at old at into out)
        go (taken next line made) same = absurd (clash (cc (same_answer same)))
        go at_end same = stops 0 is_none (same_run same) (same_page same)
        go (refused any) same = absurd (clash (cc (same_answer same)))

      pub turn_refuses : (refusal : Refusal) → number ≡ number_of refusal → answer ≡ Err refusal
          → left ≡ turn course window last (going_at old at into out)
      unfolding field_run passing
      turn_refuses refusal is_number is_refused = by_met left go where
        go : (met : Met Run) → field_left answer new page ≡ field_run met old (put into out)
            → left ≡ passing course met last (going_at old at into out)
        go (taken next line made) same = absurd (clash (cc (same_answer same)))
        go at_end same = absurd (clash (cc (same_answer same)))
        go (refused any) same =
            let told : number_of refusal ≡ any = cc (same_answer same) in
            stops any (is_number ∙ told) (same_run same) (same_page same)
