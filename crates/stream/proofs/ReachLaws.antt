-- How far `Came` reaches: neither the input nor what was answered to a read is named in it, so it
-- holds of a run that took its input to be empty, and of one whose first read failed, whatever was
-- there. Assumes nothing.
use mathlib.Core.Path.{◌≡◌, sym}
use mathlib.Core.Bool.{true, false}
use mathlib.Core.List.{List, []}
use Prim.Native.Nat.{ℕ}
use native.Mathlib.Omega.{arith}
use lib.ListN.{replicate}
use lib.Seq.{drop-nil}
use Rattle.lines.specs.Written.{line_room}
use Rattle.pieces.specs.Course.{Course}
use Rattle.pieces.specs.Steady.{Steady}
use Rattle.pieces.specs.AsCoded.Window.{window_run}
use Rattle.pieces.proofs.EmptyLaws.{empty_untouched, empty_waits, empty_is_over}
use Rattle.stream.specs.Progress.{far_at_start, after_call, at_end, starts, finds_end}
use Rattle.stream.specs.Came.{Came, finished, unread}

module _ {Run : Type 0} (course : Course Run) {longest : ℕ} (steady : Steady course longest)
    (start : Run) where
  room : List ℕ
  room = replicate line_room 0

  -- the input is not named, and a run of an empty one leaves all as it was
  pub empty_input_is_whole : Came course start start true
  unfolding room
  empty_input_is_whole =
      finished (record {
        turns = 1;
        before = at_end (after_call course (far_at_start start) room);
        progressed =
            finds_end room starts (empty_waits course steady start room (omega arith))
            (rw nothing_left (omega arith));
        out = room;
        is_new =
            rw (empty_untouched course steady start room false, nothing_left)
            (sym (empty_untouched course steady start room true));
      })
      (rw (empty_untouched course steady start room false, nothing_left)
      (empty_is_over course steady start room (omega arith)))
    where
      nothing_left : (after_call course (far_at_start start) room).window ≡ []
      nothing_left = drop-nil (window_run course start [] false room).at

  -- nor is what was answered to a read, and a run whose first read failed leaves all as it was
  pub failed_at_once_is_not_whole : Came course start start false
  unfolding room
  failed_at_once_is_not_whole =
      unread (record {
        turns = 0;
        before = far_at_start start;
        progressed = starts;
        out = room;
        is_new = sym (empty_untouched course steady start room false);
      })
      (empty_waits course steady start room (omega arith))
