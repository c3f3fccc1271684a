-- A call comes to an end with an answer: it stops, its lines are in the buffer, it needs no bytes
-- behind the last, and where it is full it has taken a field. Assumes nothing.
use mathlib.Core.Path.{◌≡◌, refl, ◌∙◌}
use mathlib.Core.Logic.{◌≢◌}
use mathlib.Core.Bool.{Bool, true, false, cond, not, ◌&&◌}
use mathlib.Core.List.{List, []}
use Prim.Native.Nat.{ℕ, zero, suc, ◌-◌, ◌≤◌, ◌<◌}
use native.Mathlib.Decide.{dec_lt}
use native.Mathlib.Omega.{arith}
use lib.ListN.{length}
use Rattle.rules.proofs.Clash.{clash}
use Rattle.lines.specs.Written.{line_room}
use Rattle.lines.proofs.WrittenLaws.{length_written}
use Rattle.pieces.specs.declared.stop.Stop.{Stop}
use Rattle.pieces.specs.declared.stop.Stop.TheVariants.{Going, Hungry, Full}
use Rattle.pieces.specs.Course.{Met, taken, at_end, refused, Course, last_of, may_go_on}
use Rattle.pieces.specs.Steady.{Steady}
use Rattle.pieces.specs.AsCoded.Window.{
  Passed,
  stopped_at,
  stops_at,
  passing,
  turn,
  is_going,
  turns,
  most_turns,
  passed_at_start,
  window_run,
}
use Rattle.pieces.proofs.StopLaws.{
  going_is,
  going_hungry,
  going_full,
  hungry_going,
  hungry_full,
  full_going,
  full_hungry,
  over_going,
  over_hungry,
  over_full,
}
use Rattle.pieces.proofs.TurnLaws.{
  stopped_stays,
  call_keeps,
  by_turn,
  as_going,
  stops_so,
}
use Rattle.pieces.proofs.WindowLaws.{turn_inside}

module _ {Run : Type 0} (course : Course Run) {longest : ℕ} (steady : Steady course longest)
    (window : List ℕ) (last : Bool) where
  -- ---- where it ends

  -- the lines are in the buffer
  pub call_inside : (old : Run) (out : List ℕ)
      → (window_run course old window last out).put
      ≤ length (window_run course old window last out).out
  call_inside old out =
      call_keeps course window last Inside
      (λ old' is inside.
      as_going course window last Inside old' is
      (turn_inside course steady window [] last (λ _. refl) old'.run old'.at old'.put
      old'.out inside))
      old out (omega arith)
    where
      Inside : Passed Run → Type 0
      Inside new = new.put ≤ length new.out

  -- the fields that were taken are in the window
  pub call_within : (old : Run) (out : List ℕ)
      → (window_run course old window last out).at ≤ length window
  unfolding passing
  call_within old out =
      call_keeps course window last Within
      (λ old' is within.
      by_turn course window last Within old' (λ _. within) (λ met is' room. go old' within met is'))
      old out (omega arith)
    where
      Within : Passed Run → Type 0
      Within new = new.at ≤ length window

      go : (old' : Passed Run) → Within old' → (met : Met Run)
          → course.meets old'.run window old'.at ≡ met
          → Within (passing course met last old')
      go old' within (taken next line new) is =
          steady.ends_inside old'.run window old'.at is
      go old' within at_end is = within
      go old' within (refused number) is = within

  -- ---- how it stops

  -- the last bytes leave no call waiting
  pub last_call_waits_not : last ≡ true → (old : Run) (out : List ℕ)
      → (window_run course old window last out).stop ≢ Hungry
  unfolding passing
  last_call_waits_not is_last old out =
      call_keeps course window last (λ (new : Passed Run). Other new.stop)
      (λ old' is other.
      by_turn course window last (λ (new : Passed Run). Other new.stop) old' (λ _. full_hungry)
      (λ met is' room. go old' met))
      old out going_hungry
    where
      Other : Stop → Type 0
      Other stop = stop ≢ Hungry

      go : (old' : Passed Run) (met : Met Run) → Other (passing course met last old').stop
      go old' (taken next line new) = going_hungry
      go old' at_end =
          stops_so course window last Other 0 old' (λ more. absurd (clash (cc))) over_hungry
      go old' (refused number) =
          stops_so course window last Other number old' (λ more. absurd (clash (cc))) over_hungry

  -- a turn that does not stop has taken a field
  turn_moves : (old : Passed Run) → (turn course window last old).stop ≡ Going
      → old.at < (turn course window last old).at
  unfolding passing
  turn_moves old =
      by_turn course window last (λ (new : Passed Run). new.stop ≡ Going → old.at < new.at) old
      (λ _ same. absurd (full_going same)) (λ met is room. go met is)
    where
      Stops : Stop → Type 0
      Stops stop = stop ≢ Going

      go : (met : Met Run) → course.meets old.run window old.at ≡ met
          → (passing course met last old).stop ≡ Going
          → old.at < (passing course met last old).at
      go (taken next line new) is goes =
          steady.moves_on old.run window old.at is
      go at_end is goes =
          absurd (stops_so course window last Stops 0 old (λ _. hungry_going) over_going goes)
      go (refused number) is goes =
          absurd (stops_so course window last Stops number old (λ _. hungry_going) over_going goes)

  turn_within : (old : Passed Run) → old.at ≤ length window
      → (turn course window last old).at ≤ length window
  unfolding passing
  turn_within old within =
      by_turn course window last (λ (new : Passed Run). new.at ≤ length window) old (λ _. within)
      (λ met is room. go met is)
    where
      go : (met : Met Run) → course.meets old.run window old.at ≡ met
          → (passing course met last old).at ≤ length window
      go (taken next line new) is =
          steady.ends_inside old.run window old.at is
      go at_end is = within
      go (refused number) is = within

  -- a turn more, or none
  turns_by : (most : ℕ) (old : Passed Run) (goes : Bool) → is_going old.stop ≡ goes
      → turns course (suc most) window last old
      ≡ cond goes (turns course most window last (turn course window last old)) old
  unfolding turns
  turns_by most old goes is = rw is

  -- that it stops, if the turns that are left are more than the bytes
  abbrev StopsIn : ℕ → Passed Run → Type 0
  StopsIn most old =
      old.at ≤ length window → length window - old.at < most
      → is_going (turns course most window last old).stop ≡ false

  after_turn : (most : ℕ) (old : Passed Run) (goes : Bool)
      → is_going (turn course window last old).stop ≡ goes
      → StopsIn most (turn course window last old)
      → old.at ≤ length window → length window - old.at < suc most
      → is_going (turns course most window last (turn course window last old)).stop ≡ false
  after_turn most old true is on within few =
      on (turn_within old within)
      (omega (
        arith,
        few,
        turn_moves old (going_is (turn course window last old).stop is),
        turn_within old within,
      ))
  after_turn most old false is on within few =
      rw (stopped_stays course window last most (turn course window last old) is) is

  one_more : (most : ℕ) (old : Passed Run) (goes : Bool) → is_going old.stop ≡ goes
      → StopsIn most (turn course window last old) → StopsIn (suc most) old
  one_more most old true is on within few =
      rw (turns_by most old true is)
      (after_turn most old (is_going (turn course window last old).stop) refl on within few)
  one_more most old false is on within few = rw (turns_by most old false is) is

  turns_stop : (most : ℕ) (old : Passed Run) → StopsIn most old
  turns_stop zero old within few = absurd (omega (arith, few))
  turns_stop (suc most) old within few =
      one_more most old (is_going old.stop) refl (turns_stop most (turn course window last old))
      within few

  pub call_stops : (old : Run) (out : List ℕ) → length window < most_turns
      → is_going (window_run course old window last out).stop ≡ false
  unfolding window_run
  call_stops old out few =
      turns_stop most_turns (passed_at_start old out) (omega arith) (omega (arith, few))

  -- ---- where it is full, it has taken a field

  record Started (size : ℕ) (new : Passed Run) : Type 0 where
    fresh : new.stop ≡ Going → new.at ≡ 0 → new.put ≡ 0
    as_long : length new.out ≡ size
    moved : new.stop ≡ Full → 0 < new.at

  stop_started : (size number : ℕ) (old : Passed Run) → length old.out ≡ size
      → Started size (stops_at course number last old)
  unfolding stopped_at
  stop_started size number old long = go (not last && may_go_on number) refl where
    text : List ℕ
    text = last_of course number old.run

    go : (waits : Bool) → not last && may_go_on number ≡ waits
        → Started size (stops_at course number last old)
    go true is =
        rw is
        (record {
          fresh = λ same. absurd (hungry_going same);
          as_long = long;
          moved = λ same. absurd (hungry_full same);
        })
    go false is =
        rw is
        (record {
          fresh = λ same. absurd (over_going same);
          as_long = length_written line_room old.out old.put text ∙ long;
          moved = λ same. absurd (over_full same);
        })

  turn_started : (size : ℕ) → line_room ≤ size → (old : Passed Run) → old.stop ≡ Going
      → Started size old → Started size (turn course window last old)
  unfolding passing
  turn_started size room old goes so_far =
      by_turn course window last (Started size) old
      (λ short. record {
        fresh = λ same. absurd (full_going same);
        as_long = so_far.as_long;
        moved =
            λ _.
            elim (dec_lt 0 old.at) [
              | yes more ↦ more
              | no none ↦
                  let at_start : old.at ≡ 0 = omega arith in
                  absurd (omega (arith, short, room, so_far.as_long, so_far.fresh goes at_start))
            ];
      })
      (λ met is _. go met is)
    where
      go : (met : Met Run) → course.meets old.run window old.at ≡ met
          → Started size (passing course met last old)
      go (taken next line new) is =
          let further : old.at < next = steady.moves_on old.run window old.at is in
          record {
            fresh = λ _ at_start. absurd (omega (arith, further, at_start));
            as_long =
                length_written line_room old.out old.put line ∙ so_far.as_long;
            moved = λ same. absurd (going_full same);
          }
      go at_end is = stop_started size 0 old so_far.as_long
      go (refused number) is = stop_started size number old so_far.as_long

  pub full_after_a_field : (old : Run) (out : List ℕ) → line_room ≤ length out
      → (window_run course old window last out).stop ≡ Full
      → 0 < (window_run course old window last out).at
  full_after_a_field old out room =
      (call_keeps course window last (Started (length out)) (turn_started (length out) room) old out
      (record {
        fresh = λ _ _. refl;
        as_long = refl;
        moved = λ same. absurd (going_full same);
      })).moved
