-- A turn goes by what is met, and turns are one after the other: what a program's own call cites.
-- What every turn keeps, a call keeps (`call_keeps`): so most claims over calls are proved, here
-- and in the crates above. Assumes nothing.
use mathlib.Core.Path.{◌≡◌, refl, sym, subst}
use mathlib.Core.Bool.{Bool, true, false, cond, not, ◌&&◌}
use mathlib.Core.List.{List}
use Prim.Native.Nat.{ℕ, zero, suc, ◌-◌, ◌≤◌, ◌<◌}
use native.Mathlib.Omega.{arith}
use lib.Dec.{ltb}
use lib.ListN.{length}
use borrow.Author.Tests.{lt-ltb, le-ltb, ltb-true, ltb-false}
use Rattle.lines.specs.Written.{put, line_room, line_written}
use Rattle.pieces.specs.declared.stop.Stop.{Stop}
use Rattle.pieces.specs.declared.stop.Stop.TheVariants.{Going, Hungry, Full, Over}
use Rattle.pieces.specs.Course.{Met, Course, last_of, may_go_on}
use Rattle.pieces.specs.AsCoded.Window.{
  Passed,
  stopping,
  stopped,
  stopped_at,
  stops_at,
  passing,
  turn,
  is_going,
  turns,
  most_turns,
  passed_at_start,
  window_run,
}

module _ {Run : Type 0} (course : Course Run) (window : List ℕ) (last : Bool) where
  -- ---- a turn

  -- without room for a line it stops
  pub turn_full : (old : Passed Run) → length old.out - old.put < line_room
      → stopping Full old ≡ turn course window last old
  unfolding turn
  turn_full old short = rw (lt-ltb (length old.out - old.put) line_room short)

  -- else it goes by what is met
  pub turn_by : (old : Passed Run) {met : Met Run} → line_room ≤ length old.out - old.put
      → course.meets old.run window old.at ≡ met
      → passing course met last old ≡ turn course window last old
  unfolding turn
  turn_by old enough is = rw (is, le-ltb (length old.out - old.put) line_room enough)

  -- ---- turn after turn

  -- a turn, and then the others
  pub one_turn : (left : ℕ) (old new : Passed Run) → old.stop ≡ Going
      → turn course window last old ≡ new
      → turns course left window last new ≡ turns course (suc left) window last old
  unfolding turns
  one_turn left old new going is = rw (is, going)

  -- no turns do nothing
  pub no_turns : (left : ℕ) (old : Passed Run) → left ≤ 0 → turns course left window last old ≡ old
  unfolding turns
  no_turns zero old none = refl
  no_turns (suc left) old none = absurd (omega (arith, none))

  -- turns do nothing to what has stopped
  pub stopped_stays : (left : ℕ) (old : Passed Run) → is_going old.stop ≡ false
      → turns course left window last old ≡ old
  unfolding turns
  stopped_stays zero old stops = refl
  stopped_stays (suc left) old stops = rw stops

  -- ---- what every turn keeps

  turns_keep : (Claim : Passed Run → Type 0)
      → ((old : Passed Run) → old.stop ≡ Going → Claim old → Claim (turn course window last old))
      → (most : ℕ) (old : Passed Run) → Claim old → Claim (turns course most window last old)
  unfolding turns
  turns_keep Claim keep zero old holds = holds
  turns_keep Claim keep (suc most) old holds =
      by_stop old.stop refl (turns_keep Claim keep most next) where
        next : Passed Run
        next = turn course window last old

        as_is : (stop : Stop) → old.stop ≡ stop
            → Claim (cond (is_going stop) (turns course most window last next) old)
            → Claim (turns course (suc most) window last old)
        as_is stop is =
            subst (λ (any : Stop).
            Claim (cond (is_going any) (turns course most window last next) old)) (sym is)

        by_stop : (stop : Stop) → old.stop ≡ stop
            → (Claim next → Claim (turns course most window last next))
            → Claim (turns course (suc most) window last old)
        by_stop Going is on = as_is Going is (on (keep old is holds))
        by_stop Hungry is on = as_is Hungry is holds
        by_stop Full is on = as_is Full is holds
        by_stop Over is on = as_is Over is holds

  -- what every turn keeps, a call keeps
  pub call_keeps : (Claim : Passed Run → Type 0)
      → ((old : Passed Run) → old.stop ≡ Going → Claim old → Claim (turn course window last old))
      → (old : Run) (out : List ℕ) → Claim (passed_at_start old out)
      → Claim (window_run course old window last out)
  unfolding window_run
  call_keeps Claim keep old out holds =
      turns_keep Claim keep most_turns (passed_at_start old out) holds

  -- a turn that is not full goes by what is met
  pub by_turn : (Claim : Passed Run → Type 0) (old : Passed Run)
      → (length old.out - old.put < line_room → Claim (stopping Full old))
      → ((met : Met Run) → course.meets old.run window old.at ≡ met
      → line_room ≤ length old.out - old.put → Claim (passing course met last old))
      → Claim (turn course window last old)
  unfolding turn
  by_turn Claim old full other = go (ltb (length old.out - old.put) line_room) refl where
    go : (test : Bool) → ltb (length old.out - old.put) line_room ≡ test
        → Claim (turn course window last old)
    go true is = rw is (full (ltb-true (length old.out - old.put) line_room is))
    go false is =
        rw is
        (other (course.meets old.run window old.at) refl
        (ltb-false (length old.out - old.put) line_room is))

  -- a turn does not look at why the one before stopped
  pub as_going : (Claim : Passed Run → Type 0) (old : Passed Run) → old.stop ≡ Going
      → Claim (turn course window last (stopping Going old)) → Claim (turn course window last old)
  as_going Claim old is =
      subst (λ (stop : Stop). Claim (turn course window last (stopping stop old))) (sym is)

  -- where no field is taken, the call waits or is over
  pub stops_so : (Claim : Stop → Type 0) (number : ℕ) (old : Passed Run)
      → (last ≡ false → Claim Hungry) → Claim Over → Claim (stops_at course number last old).stop
  unfolding stopped_at
  stops_so Claim number old waits over = go last refl (may_go_on number) where
    go : (any : Bool) → last ≡ any → (may : Bool)
        → Claim (cond (not last && may) (stopped (put old.put old.out) Hungry)
        (stopped (line_written old.out old.put (last_of course number old.run)) Over)).stop
    go true is may = rw is over
    go false is true = rw is (waits is)
    go false is false = rw is over
