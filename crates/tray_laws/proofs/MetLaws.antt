-- What a tray run meets is what the reader reads: a field that is taken is one that the reader took
-- (`taken_so`), and a refusal is one of the reader's (`refused_so`). Assumes nothing.
use mathlib.Core.Path.{◌≡◌, refl, sym, ap, ◌∙◌}
use mathlib.Core.List.{List}
use Prim.Native.Nat.{ℕ, ◌-◌}
use Rattle.rules.proofs.Clash.{clash}
use Rattle.recording.specs.declared.field.Field.{Field}
use Rattle.recording.specs.Reading.{Reading, Taken, End, Refused, read_at}
use Rattle.pieces.specs.Course.{taken, refused}
use Rattle.pieces.proofs.CourseLaws.{same_next, same_line, same_new, same_number}
use Rattle.tray.specs.Run.{Tray, taking, taking_line, met_by, tray_course}

pub record TakenSo (old : Tray) (bytes : List ℕ) (at next : ℕ) (line : List ℕ) (new : Tray)
    : Type 0 where
  pub field : Field
  pub is_read : read_at bytes at old.seen ≡ Taken field next
  pub is_line_lem : taking_line bytes field old ≡ line
  pub is_new : taking bytes field (next - at) old ≡ new

pub record RefusedSo (old : Tray) (bytes : List ℕ) (at number : ℕ) : Type 0 where
  pub place : ℕ
  pub is_read : read_at bytes at old.seen ≡ Refused number place

module _ (old : Tray) (bytes : List ℕ) (at : ℕ) where
  -- what is met, by the reading
  pub met_as_read : {reading : Reading} → read_at bytes at old.seen ≡ reading
      → tray_course.meets old bytes at ≡ met_by reading bytes at old
  unfolding tray_course
  met_as_read is = ap (λ (any : Reading). met_by any bytes at old) is

  pub taken_so : {next : ℕ} {line : List ℕ} {new : Tray}
      → tray_course.meets old bytes at ≡ taken next line new → TakenSo old bytes at next line new
  unfolding tray_course met_by
  taken_so {next} {line} {new} = go (read_at bytes at old.seen) refl where
    go : (reading : Reading) → read_at bytes at old.seen ≡ reading
        → met_by reading bytes at old ≡ taken next line new → TakenSo old bytes at next line new
    go (Taken field next') is same =
        record {
          field = field;
          is_read = is ∙ ap (Taken field) (same_next same);
          is_line_lem = same_line same;
          is_new =
              ap (λ (any : ℕ). taking bytes field (any - at) old) (sym (same_next same))
              ∙ same_new same;
        }
    go End is same = absurd (clash (cc))
    go (Refused number place) is same = absurd (clash (cc))

  pub refused_so : {number : ℕ} → tray_course.meets old bytes at ≡ refused number
      → RefusedSo old bytes at number
  unfolding tray_course met_by
  refused_so {number} = go (read_at bytes at old.seen) refl where
    go : (reading : Reading) → read_at bytes at old.seen ≡ reading
        → met_by reading bytes at old ≡ refused number → RefusedSo old bytes at number
    go (Taken field next) is same = absurd (clash (cc))
    go End is same = absurd (clash (cc))
    go (Refused other place) is same =
        record {
          place = place;
          is_read = is ∙ ap (λ (any : ℕ). Refused any place) (same_number same);
        }
