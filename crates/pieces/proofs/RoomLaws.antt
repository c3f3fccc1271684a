-- A buffer that has `room_of` for a recording is never full: one call runs the whole of it, prints
-- its text from the first byte on, and leaves every byte behind as it was. Assumes nothing.
use mathlib.Core.Path.{◌≡◌, refl, sym, ap, ◌∙◌}
use mathlib.Core.Logic.{◌≢◌}
use mathlib.Core.Bool.{true, false}
use mathlib.Core.List.{List, [], ◌++◌, append-nil}
use Prim.Native.Nat.{ℕ, ◌+◌, ◌-◌, ◌*◌, ◌≤◌, ◌<◌}
use native.Mathlib.Nat.{mul-add, mul-le-mul_left}
use native.Mathlib.Omega.{arith}
use lib.ListN.{length, drop, take-append-drop}
use lib.Seq.{sets, sets-eq, length-take-le, drop-drop}
use Rattle.rules.proofs.Clash.{clash}
use Rattle.lines.specs.Written.{stored, line_room, line_written}
use Rattle.lines.proofs.WrittenLaws.{in_room, length_written, drop_written}
use Rattle.pieces.specs.declared.stop.Stop.{Stop}
use Rattle.pieces.specs.declared.stop.Stop.TheVariants.{Going, Hungry, Full, Over}
use Rattle.pieces.specs.Course.{Met, taken, at_end, refused, Course, last_of}
use Rattle.pieces.specs.Whole.{Whole, whole, whole_from}
use Rattle.pieces.specs.Steady.{Steady, ShortLines}
use Rattle.pieces.specs.AsCoded.Window.{
  Passed,
  stopped_at,
  stops_at,
  passing,
  turn,
  is_going,
  most_turns,
  window_run,
  room_of,
}
use Rattle.pieces.specs.AsCoded.Pieces.{lines_put}
use Rattle.pieces.proofs.StopLaws.{over_full, over_going, going_full}
use Rattle.pieces.proofs.WholeLaws.{last_of_fits}
use Rattle.pieces.proofs.WindowLaws.{call_is_over}
use Rattle.pieces.proofs.TurnLaws.{call_keeps, by_turn}
use Rattle.pieces.proofs.EndLaws.{call_inside, call_stops, last_call_waits_not}

-- the lines of the fields so far, and one more
more_lines : (each put at next line : ℕ) → put ≤ each * at → at < next → line ≤ each * (next - at)
    → put + line ≤ each * next
more_lines each put at next line few further short =
    let both : each * at + each * (next - at) ≡ each * next =
    sym (mul-add each at (next - at)) ∙ ap (λ (all : ℕ). each * all) (omega (arith, further)) in
    omega (arith, few, short, both)

module _ {Run : Type 0} (course : Course Run) {longest : ℕ} (steady : Steady course longest)
    (each : ℕ) (short_lines : ShortLines course each) (window first : List ℕ)
    (room : room_of each (length window) ≤ length first) where
  -- ---- what every turn keeps

  -- over a buffer `first`: the lines so far take no more than `each` bytes for each of the fields',
  -- the buffer is as long as it was, and behind the lines it holds what it held
  record Roomy (new : Passed Run) : Type 0 where
    few : new.stop ≡ Going → new.put ≤ each * new.at
    within : new.at ≤ length window
    as_long : length new.out ≡ length first
    behind : drop new.put new.out ≡ drop new.put first
    not_full : new.stop ≢ Full

  -- a line goes behind the others
  behind_line : (old : Passed Run) (line : List ℕ) → Roomy old
      → line_room ≤ length old.out - old.put → length line ≤ line_room
      → drop (line_written old.out old.put line).next
      (line_written old.out old.put line).bytes
      ≡ drop (line_written old.out old.put line).next first
  unfolding stored
  behind_line old line so_far enough fits =
      drop_written line_room old.out old.put line (omega arith) enough fits
      ∙ rw (in_room line_room old.out old.put line enough)
      (sym (drop-drop (length line) old.put old.out)
      ∙ ap (drop (length line)) so_far.behind
      ∙ drop-drop (length line) old.put first)

  last_roomy : (number : ℕ) (old : Passed Run) → Roomy old
      → line_room ≤ length old.out - old.put → Roomy (stops_at course number true old)
  unfolding stopped_at
  last_roomy number old so_far enough =
      let line : List ℕ = last_of course number old.run in
      record {
        few = λ same. absurd (over_going same);
        within = so_far.within;
        as_long = length_written line_room old.out old.put line ∙ so_far.as_long;
        behind = behind_line old line so_far enough (last_of_fits course number old.run);
        not_full = over_full;
      }

  passing_roomy : (old : Passed Run) → old.stop ≡ Going → Roomy old
      → line_room ≤ length old.out - old.put → (met : Met Run)
      → course.meets old.run window old.at ≡ met
      → Roomy (passing course met true old)
  unfolding passing stopped_at stored
  passing_roomy old goes so_far enough (taken next line new) is =
      record {
        few =
            λ _.
            rw (in_room line_room old.out old.put line enough)
            (more_lines each old.put old.at next (length line) (so_far.few goes)
            (steady.moves_on old.run window old.at is)
            (short_lines old.run window old.at next line new is));
        within = steady.ends_inside old.run window old.at is;
        as_long = length_written line_room old.out old.put line ∙ so_far.as_long;
        behind =
            behind_line old line so_far enough (steady.line_fits old.run window old.at is);
        not_full = going_full;
      }
  passing_roomy old goes so_far enough at_end is = last_roomy 0 old so_far enough
  passing_roomy old goes so_far enough (refused number) is = last_roomy number old so_far enough

  turn_roomy : (old : Passed Run) → old.stop ≡ Going → Roomy old
      → Roomy (turn course window true old)
  turn_roomy old goes so_far =
      by_turn course window true Roomy old
      (λ short. absurd (omega (
        arith,
        short,
        room,
        so_far.few goes,
        mul-le-mul_left each so_far.within,
        so_far.as_long,
      )))
      (λ met is enough. passing_roomy old goes so_far enough met is)

  -- ---- one call

  module _ (old : Run) (few_bytes : length window < most_turns) where
    abbrev call : Passed Run
    call = window_run course old window true first

    call_roomy : Roomy call
    call_roomy =
        call_keeps course window true Roomy turn_roomy old first
        (record {
          few = λ _. omega arith;
          within = omega arith;
          as_long = refl;
          behind = refl;
          not_full = going_full;
        })

    -- it is over
    pub over_at_once : call.stop ≡ Over
    over_at_once =
        go call.stop (call_stops course steady window true old first few_bytes)
        (last_call_waits_not course steady window true refl old first) call_roomy.not_full
      where
        go : (stop : Stop) → is_going stop ≡ false → stop ≢ Hungry → stop ≢ Full → stop ≡ Over
        go Going goes waits full = absurd (clash (cc))
        go Hungry goes waits full = absurd (waits refl)
        go Full goes waits full = absurd (full refl)
        go Over goes waits full = refl

    -- what it prints and leaves is what the run makes of the whole recording
    made : whole_from course old window ≡ whole (lines_put call) call.run
    made =
        ap (whole_from course old) (sym (append-nil window))
        ∙ call_is_over course steady window [] true (λ _. refl) old first over_at_once

    pub whole_run : call.run ≡ (whole_from course old window).run
    whole_run = ap (λ (all : Whole Run). all.run) (sym made)

    pub whole_count : call.put ≡ length (whole_from course old window).text
    whole_count =
        sym (length-take-le call.put call.out
        (call_inside course steady window true old first))
        ∙ ap (λ (all : Whole Run). length all.text) (sym made)

    pub whole_bytes : call.out ≡ sets first 0 (whole_from course old window).text
    whole_bytes =
        let text : List ℕ = (whole_from course old window).text in
        let from_start : call.put ≡ 0 + length text = omega (arith, whole_count) in
        sym (take-append-drop call.put call.out)
        ∙ ap (λ (front : List ℕ). front ++ drop call.put call.out)
        (ap (λ (all : Whole Run). all.text) (sym made))
        ∙ ap (λ (rest : List ℕ). text ++ rest) call_roomy.behind
        ∙ ap (λ (count : ℕ). text ++ drop count first) from_start
        ∙ sym (sets-eq text first 0
        (omega (
          arith,
          whole_count,
          call_inside course steady window true old first,
          call_roomy.as_long,
        )))
