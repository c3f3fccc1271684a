-- The course of a tray run is steady, so that a recording may come in pieces: `tray_is_steady`. No
-- field has more than 133 bytes. Assumes nothing.
use mathlib.Core.Path.{◌≡◌, refl, ap, subst, ◌∙◌}
use mathlib.Core.Bool.{true, false, true≢false}
use mathlib.Core.List.{List, [], ◌++◌}
use Prim.Native.Nat.{ℕ, ◌+◌, ◌-◌, ◌≤◌, ◌<◌}
use native.Mathlib.Omega.{arith}
use lib.ListN.{length, drop}
use Rattle.rules.proofs.Clash.{clash}
use Rattle.recording.specs.Reading.{Reading, Taken, End, Refused, read_at}
use Rattle.recording.specs.AsCoded.Pieces.{shifted}
use Rattle.recording.proofs.TakenLaws.{taken_within}
use Rattle.recording.proofs.MoreBytes.{more_bytes_same_field, more_bytes_same_refusal}
use Rattle.recording.proofs.WaitingLaws.{few_at_the_end, few_at_a_refusal}
use Rattle.recording.proofs.Shifted.{seen_of_shifted, dropped_bytes}
use Rattle.recording.proofs.ValueLaws.{more_bytes_same_values, shifted_values}
use Rattle.lines.specs.Written.{line_room}
use Rattle.pieces.specs.Course.{taken, at_end, refused, may_go_on, waits, further_on}
use Rattle.pieces.specs.Steady.{Steady}
use Rattle.tray.specs.Run.{Tray, taking, taking_line, met_by, tray_course}
use Rattle.tray_laws.proofs.MetLaws.{met_as_read, taken_so, refused_so}
use Rattle.tray_laws.proofs.FitLaws.{taking_line_fits}

-- ---- only the bytes from the place on are looked at

shifted_met : (old : Tray) (bytes : List ℕ) (at : ℕ) (reading : Reading)
    → met_by (shifted at reading) bytes at old
    ≡ further_on at (met_by reading (drop at bytes) 0 old)
unfolding met_by taking taking_line
shifted_met old bytes at (Taken field next) =
    let size : (at + next) - at ≡ next - 0 = omega arith in
    rw (shifted_values at bytes field, seen_of_shifted at field old.seen, size)
shifted_met old bytes at End = refl
shifted_met old bytes at (Refused number place) = refl

from_place : (old : Tray) (bytes : List ℕ) (at : ℕ)
    → tray_course.meets old bytes at ≡ further_on at (tray_course.meets old (drop at bytes) 0)
unfolding tray_course
from_place old bytes at =
    ap (λ (any : Reading). met_by any bytes at old)
    (ap (λ (from : ℕ). read_at bytes from old.seen) (omega arith)
    ∙ dropped_bytes at bytes 0 old.seen)
    ∙ shifted_met old bytes at (read_at (drop at bytes) 0 old.seen)

-- ---- bytes behind

module _ (old : Tray) (bytes behind : List ℕ) where
  taken_stays : {next : ℕ} {line : List ℕ} {new : Tray}
      → tray_course.meets old bytes 0 ≡ taken next line new
      → tray_course.meets old (bytes ++ behind) 0 ≡ taken next line new
  unfolding met_by taking taking_line
  taken_stays {next} {line} is =
      let read = taken_so old bytes 0 is in
      let field = read.field in
      met_as_read old (bytes ++ behind) 0
      (more_bytes_same_field bytes behind 0 old.seen read.is_read)
      ∙ rw (more_bytes_same_values bytes behind 0 old.seen field read.is_read)
      (ap (λ (text : List ℕ). taken next text (taking bytes field (next - 0) old)) read.is_line_lem
      ∙ ap (taken next line) read.is_new)

  refused_stays : {number : ℕ} → tray_course.meets old bytes 0 ≡ refused number
      → may_go_on number ≡ false → tray_course.meets old (bytes ++ behind) 0 ≡ refused number
  unfolding met_by
  refused_stays is stands =
      let read = refused_so old bytes 0 is in
      met_as_read old (bytes ++ behind) 0
      (more_bytes_same_refusal bytes behind 0 old.seen read.is_read
      (λ five. true≢false (rw five at stands)))

-- ---- a reading that waits for bytes

few_wait : (old : Tray) (bytes : List ℕ) (at : ℕ) → waits (tray_course.meets old bytes at) ≡ true
    → length bytes < at + 133
unfolding tray_course met_by
few_wait old bytes at = go (read_at bytes at old.seen) refl where
  go : (reading : Reading) → read_at bytes at old.seen ≡ reading
      → waits (met_by reading bytes at old) ≡ true → length bytes < at + 133
  go (Taken field next) is wait = absurd (clash (cc))
  go End is wait = few_at_the_end bytes at old.seen is
  go (Refused number named) is wait = few_at_a_refusal bytes at old.seen is wait

-- ---- all that is asked

nothing_read : (old : Tray) → tray_course.meets old [] 0 ≡ at_end
unfolding tray_course met_by read_at
nothing_read old = refl

pub tray_is_steady : Steady tray_course 133
tray_is_steady =
    record {
      from_the_place = from_place;
      stays_taken = taken_stays;
      stays_refused = refused_stays;
      end_of_none = nothing_read;
      few_left = few_wait;
      moves_on =
          λ old bytes at is.
          (taken_within bytes at old.seen (taken_so old bytes at is).is_read).moves_on;
      ends_inside =
          λ old bytes at is.
          (taken_within bytes at old.seen (taken_so old bytes at is).is_read).ends_inside;
      line_fits =
          λ old bytes at is.
          let read = taken_so old bytes at is in
          subst (λ (line : List ℕ). length line ≤ line_room) read.is_line_lem
          (taking_line_fits bytes read.field old);
    }
