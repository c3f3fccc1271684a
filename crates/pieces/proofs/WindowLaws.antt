-- A call over a window makes of its bytes what the run makes of them, whatever bytes come behind,
-- and leaves the rest to be done: `call_goes_on`, and where it is over `call_is_over`. Assumes
-- nothing.
use mathlib.Core.Path.{◌≡◌, refl, sym, ap, ◌∙◌}
use mathlib.Core.Logic.{◌≢◌}
use mathlib.Core.Bool.{Bool, true, false, not, ◌&&◌}
use mathlib.Core.List.{List, [], ◌++◌, append_assoc, append-nil}
use Prim.Native.Nat.{ℕ, zero, suc, ◌+◌, ◌-◌, ◌≤◌}
use native.Mathlib.Omega.{arith}
use lib.Dec.{ltb}
use lib.ListN.{length, take, drop}
use lib.Seq.{drop-append-le, drop-drop}
use borrow.Author.Tests.{ltb-false}
use Rattle.lines.specs.Written.{line_room, line_written}
use Rattle.lines.proofs.WrittenLaws.{take_written, length_written, next_written}
use Rattle.pieces.specs.declared.stop.Stop.{Stop}
use Rattle.pieces.specs.declared.stop.Stop.TheVariants.{Going, Hungry, Full, Over}
use Rattle.pieces.specs.Course.{
  Met,
  taken,
  at_end,
  refused,
  Course,
  last_of,
  may_go_on,
  further_on,
}
use Rattle.pieces.specs.Whole.{Whole, whole, with_line, whole_of, whole_from}
use Rattle.pieces.specs.Steady.{Steady}
use Rattle.pieces.specs.AsCoded.Window.{
  Passed,
  stopped_at,
  stops_at,
  takes,
  passing,
  turn,
  turns,
  most_turns,
  window_run,
}
use Rattle.pieces.specs.AsCoded.Pieces.{lines_put}
use Rattle.pieces.proofs.WholeLaws.{last_of_fits, whole_by_met}

-- what is still to come of a run: all that it makes of the bytes that are left, and of one that is
-- over nothing more
abbrev ahead : {Run : Type 0} → Course Run → Stop → Run → List ℕ → Whole Run
ahead course Going old bytes = whole_from course old bytes
ahead course Hungry old bytes = whole_from course old bytes
ahead course Full old bytes = whole_from course old bytes
ahead course Over old bytes = whole [] old

module _ {Run : Type 0} (course : Course Run) {longest : ℕ} (steady : Steady course longest)
    (window behind : List ℕ) where
  -- what a call has printed, and what is still to come of its window and of the bytes behind
  abbrev total : Passed Run → Whole Run
  total call =
      with_line (take call.put call.out)
      (ahead course call.stop call.run (drop call.at window ++ behind))

  module _ (last : Bool) (none_behind : last ≡ true → behind ≡ []) where
    module _ (old : Run) (at place : ℕ) (out : List ℕ) (inside : place ≤ length out) where
      abbrev going : Passed Run
      going = record { run = old; at = at; put = place; out = out; stop = Going }

      abbrev left : List ℕ
      left = drop at window ++ behind

      -- a line is printed behind the others
      line_printed : (line : List ℕ) → line_room ≤ length out - place → length line ≤ line_room
          → take (line_written out place line).next (line_written out place line).bytes
          ≡ take place out ++ line
      line_printed line room fits = take_written line_room out place line inside room fits

      -- a field is taken
      field_same : (next : ℕ) (line : List ℕ) (new : Run) → line_room ≤ length out - place
          → course.meets old (drop at window) 0 ≡ taken next line new
          → total (takes (at + next) line new going) ≡ total going
      unfolding whole_of
      field_same next line new room is =
          let rest : drop (at + next) window ++ behind ≡ drop next left =
          ap (λ (bytes : List ℕ). bytes ++ behind) (sym (drop-drop next at window))
          ∙ sym (drop-append-le next (drop at window) behind
          (steady.ends_inside old (drop at window) 0 is)) in
          let after : Whole Run = whole_from course new (drop next left) in
          let first : whole_from course old left ≡ with_line line after =
          whole_by_met course steady old left (taken next line new)
          (steady.stays_taken old (drop at window) behind is) in
          rw rest
          (ap (λ (text : List ℕ). with_line text after)
          (line_printed line room (steady.line_fits old (drop at window) 0 is))
          ∙ ap (λ (text : List ℕ). whole text after.run)
          (append_assoc (take place out) line after.text)
          ∙ ap (with_line (take place out)) (sym first))

      -- no field is taken: the call waits, or prints the last line
      stop_same : (number : ℕ) → line_room ≤ length out - place
          → (not last && may_go_on number ≡ false
          → whole_from course old left ≡ whole (last_of course number old) old)
          → total (stops_at course number last going) ≡ total going
      unfolding stopped_at
      stop_same number room ends = go (not last && may_go_on number) refl where
        text : List ℕ
        text = last_of course number old

        go : (waits : Bool) → not last && may_go_on number ≡ waits
            → total (stops_at course number last going) ≡ total going
        go true is = rw is
        go false is =
            rw is
            (ap (λ (all : List ℕ). whole all old)
            (append-nil (take (line_written out place text).next
            (line_written out place text).bytes)
            ∙ line_printed text room (last_of_fits course number old))
            ∙ ap (with_line (take place out)) (sym (ends is)))

      -- what is left is met so, if no bytes come behind or bytes behind change nothing
      by_last : (met : Met Run) → last ≡ true → course.meets old (drop at window) 0 ≡ met
          → course.meets old left 0 ≡ met
      by_last met is_last is =
          ap (λ (bytes : List ℕ). course.meets old (drop at window ++ bytes) 0)
          (none_behind is_last)
          ∙ ap (λ (bytes : List ℕ). course.meets old bytes 0) (append-nil (drop at window))
          ∙ is

      settled_end : not last && may_go_on 0 ≡ false → last ≡ true
      settled_end is = go last is where
        go : (any : Bool) → not any && true ≡ false → any ≡ true
        go true is' = refl
        go false is' = sym is'

      -- a refusal that ends the run is one of all that is left
      refusal_met : (number : ℕ)
          → course.meets old (drop at window) 0 ≡ refused number
          → not last && may_go_on number ≡ false
          → course.meets old left 0 ≡ refused number
      refusal_met number is ends = go last refl where
        go : (any : Bool) → last ≡ any → course.meets old left 0 ≡ refused number
        go true is_last = by_last (refused number) is_last is
        go false is_last =
            steady.stays_refused old (drop at window) behind is (rw is_last at ends)

      passing_same : (met : Met Run) → line_room ≤ length out - place
          → course.meets old (drop at window) 0 ≡ met
          → total (passing course (further_on at met) last going) ≡ total going
      unfolding passing whole_of
      passing_same (taken next line new) room is = field_same next line new room is
      passing_same at_end room is =
          stop_same 0 room
          (λ ends. whole_by_met course steady old left at_end
          (by_last at_end (settled_end ends) is))
      passing_same (refused number) room is =
          stop_same number room
          (λ ends.
          whole_by_met course steady old left (refused number) (refusal_met number is ends))

      turn_same : total (turn course window last going) ≡ total going
      unfolding turn
      turn_same = go (ltb (length out - place) line_room) refl where
        go : (full : Bool) → ltb (length out - place) line_room ≡ full
            → total (turn course window last going) ≡ total going
        go true is = rw is
        go false is =
            rw (is, steady.from_the_place old window at)
            (passing_same (course.meets old (drop at window) 0)
            (ltb-false (length out - place) line_room is) refl)

      -- the next line goes into the buffer
      written_inside : (line : List ℕ) → length line ≤ line_room
          → (line_written out place line).next ≤ length (line_written out place line).bytes
      written_inside line fits =
          omega (
            arith,
            inside,
            next_written line_room out place line fits,
            length_written line_room out place line,
          )

      stop_inside : (number : ℕ)
          → (stops_at course number last going).put ≤ length (stops_at course number last going).out
      unfolding stopped_at
      stop_inside number = go (not last && may_go_on number) refl where
        go : (waits : Bool) → not last && may_go_on number ≡ waits
            → (stops_at course number last going).put
            ≤ length (stops_at course number last going).out
        go true is = rw is inside
        go false is =
            rw is (written_inside (last_of course number old) (last_of_fits course number old))

      passing_inside : (met : Met Run) → course.meets old window at ≡ met
          → (passing course met last going).put ≤ length (passing course met last going).out
      unfolding passing
      passing_inside (taken next line new) is =
          written_inside line (steady.line_fits old window at is)
      passing_inside at_end is = stop_inside 0
      passing_inside (refused number) is = stop_inside number

      pub turn_inside : (turn course window last going).put
          ≤ length (turn course window last going).out
      unfolding turn
      turn_inside = go (ltb (length out - place) line_room) refl where
        go : (full : Bool) → ltb (length out - place) line_room ≡ full
            → (turn course window last going).put ≤ length (turn course window last going).out
        go true is = rw is inside
        go false is = rw is (passing_inside (course.meets old window at) refl)

    -- ---- turn after turn

    turns_same : (most : ℕ) (old : Run) (at place : ℕ) (out : List ℕ) (stop : Stop)
        → place ≤ length out
        → total (turns course most window last
        (record { run = old; at = at; put = place; out = out; stop = stop }))
        ≡ total (record { run = old; at = at; put = place; out = out; stop = stop })
    unfolding turns
    turns_same zero old at place out stop inside = refl
    turns_same (suc most) old at place out Going inside =
        let new : Passed Run = turn course window last (going old at place out inside) in
        turns_same most new.run new.at new.put new.out new.stop
        (turn_inside old at place out inside)
        ∙ turn_same old at place out inside
    turns_same (suc most) old at place out Hungry inside = refl
    turns_same (suc most) old at place out Full inside = refl
    turns_same (suc most) old at place out Over inside = refl

    -- ---- a call

    module _ (old : Run) (out : List ℕ) where
      abbrev call : Passed Run
      call = window_run course old window last out

      call_same : total call ≡ whole_from course old (window ++ behind)
      unfolding window_run
      call_same = turns_same most_turns old 0 0 out Going (omega arith)

      -- a call that is not over prints its lines, and the rest is still to be done
      pub call_goes_on : call.stop ≢ Over
          → whole_from course old (window ++ behind)
          ≡ with_line (lines_put call)
          (whole_from course call.run (drop call.at window ++ behind))
      call_goes_on other =
          sym call_same
          ∙ ap (with_line (lines_put call))
          (not_over call.stop call.run (drop call.at window ++ behind) other)
        where
          not_over : (stop : Stop) (new : Run) (bytes : List ℕ) → stop ≢ Over
              → ahead course stop new bytes ≡ whole_from course new bytes
          not_over Going new bytes other' = refl
          not_over Hungry new bytes other' = refl
          not_over Full new bytes other' = refl
          not_over Over new bytes other' = absurd (other' refl)

      -- a call that is over has printed all there is, and leaves what the run leaves
      pub call_is_over : call.stop ≡ Over
          → whole_from course old (window ++ behind) ≡ whole (lines_put call) call.run
      call_is_over is =
          sym call_same
          ∙ ap (λ (stop : Stop). with_line (lines_put call)
          (ahead course stop call.run (drop call.at window ++ behind))) is
          ∙ ap (λ (text : List ℕ). whole text call.run) (append-nil (lines_put call))
