-- What the reader finds at a place is what it finds at the front of the bytes from there on, so
-- that a run meets the same. Assumes nothing.
use mathlib.Core.Path.{◌≡◌, refl, sym, ap, ◌∙◌}
use mathlib.Core.Bool.{Bool, not}
use mathlib.Core.List.{List}
use Prim.Native.Nat.{ℕ, ◌+◌, ◌-◌}
use native.Mathlib.Nat.{add-zero}
use native.Mathlib.Omega.{arith}
use lib.Dec.{eqb}
use lib.ListN.{drop, length-drop}
use Rattle.rules.proofs.Choices.{choice_under}
use Rattle.recording.specs.Reading.{Reading as SharedReading}
use Rattle.recording.specs.declared.seen.Seen.{Seen}
use Rattle.recording.specs.Bytes.{bytes_left, byte_at}
use Rattle.recording.specs.Reading as recording
use Rattle.recording.specs.AsCoded.Pieces.{shifted_field, shifted}
use Rattle.recording.proofs.Shifted.{byte_of_drop, word_of_drop, dropped_bytes}
use Rattle.recording.proofs.ValueLaws.{shifted_values}
use Rattle.pieces.specs.Course.{further_on}
use Rattle.controller.specs.State.{Desk}
use Rattle.desk.specs.declared.field.Field.{Field}
use Rattle.desk.specs.declared.field.Field.TheVariants.{Setup, Start, Shared}
use Rattle.desk.specs.Reading.{
  Reading,
  Taken,
  End,
  Refused,
  setup_tag,
  start_tag,
  own_refusal,
  own_at,
  is_shared,
  shared_as,
  read_at,
  seen_after,
}
use Rattle.desk.specs.Deed.{Done, deed_of}
use Rattle.desk.specs.Run.{Run, taking, took_by, met_by, desk_course}

-- a field and a reading with every place counted from `start` bytes earlier
abbrev field_from : ℕ → Field → Field
field_from start (Setup control count) = Setup control count
field_from start Start = Start
field_from start (Shared field) = Shared (shifted_field start field)

abbrev reading_from : ℕ → Reading → Reading
reading_from start (Taken field next) = Taken (field_from start field) (start + next)
reading_from start End = End
reading_from start (Refused number) = Refused number

-- ---- the reader

shared_from : (start : ℕ) (reading : SharedReading)
    → shared_as (shifted start reading) ≡ reading_from start (shared_as reading)
shared_from start (recording.Taken field next) = refl
shared_from start recording.End = refl
shared_from start (recording.Refused number place) = refl

module _ (start : ℕ) (bytes : List ℕ) where
  abbrev rest : List ℕ
  rest = drop start bytes

  left_from : bytes_left bytes start ≡ bytes_left rest 0
  left_from = omega (arith, length-drop start bytes)

  refusal_from : (size : ℕ) (due : Bool)
      → own_refusal bytes start size due ≡ own_refusal rest 0 size due
  unfolding own_refusal
  refusal_from size due = rw (left_from, word_of_drop start bytes 1)

  own_from : (size : ℕ) (due : Bool) (field field' : Field) → field ≡ field_from start field'
      → own_at bytes start size due field ≡ reading_from start (own_at rest 0 size due field')
  unfolding own_at
  own_from size due field field' same =
      let ends : start + 3 + size ≡ start + (0 + 3 + size) = omega arith in
      rw (refusal_from size due)
      (choice_under (reading_from start) (eqb (own_refusal rest 0 size due) 0)
      (rw (same, ends)) refl)

  pub reads_from : (seen : Seen)
      → read_at bytes start seen ≡ reading_from start (read_at rest 0 seen)
  unfolding read_at
  reads_from seen =
      let tag : ℕ = byte_at rest 0 in
      rw (left_from, tag_from)
      (choice_under (reading_from start) (eqb (bytes_left rest 0) 0) refl
      (choice_under (reading_from start) (eqb tag setup_tag)
      (own_from 4 (not seen.setup) _ _
      (rw (word_of_drop start bytes 3, word_of_drop start bytes 5)))
      (choice_under (reading_from start) (eqb tag start_tag)
      (own_from 0 seen.setup Start Start refl)
      (choice_under (reading_from start) (is_shared tag)
      (ap shared_as read_from_lem ∙ shared_from start (recording.read_at rest 0 seen))
      refl))))
    where
      tag_from : byte_at bytes start ≡ byte_at rest 0
      tag_from = ap (byte_at bytes) (sym (add-zero start)) ∙ byte_of_drop start bytes 0

      read_from_lem : recording.read_at bytes start seen
          ≡ shifted start (recording.read_at rest 0 seen)
      read_from_lem =
          ap (λ (from : ℕ). recording.read_at bytes from seen) (sym (add-zero start))
          ∙ dropped_bytes start bytes 0 seen

-- ---- the run

deed_from : (start : ℕ) (bytes : List ℕ) (field : Field) (old : Desk)
    → deed_of bytes (field_from start field) old ≡ deed_of (drop start bytes) field old
unfolding deed_of
deed_from start bytes (Setup control count) old = refl
deed_from start bytes Start old = refl
deed_from start bytes (Shared field) old = rw (shifted_values start bytes field)

seen_from : (start : ℕ) (field : Field) (seen : Seen)
    → seen_after (field_from start field) seen ≡ seen_after field seen
seen_from start (Setup control count) seen = refl
seen_from start Start seen = refl
seen_from start (Shared field) seen = refl

met_from : (start : ℕ) (bytes : List ℕ) (reading : Reading) (old : Run)
    → met_by (reading_from start reading) bytes start old
    ≡ further_on start (met_by reading (drop start bytes) 0 old)
unfolding met_by took_by taking
met_from start bytes (Taken field next) old =
    let deed : Done = deed_of (drop start bytes) field old.desk in
    let size : (start + next) - start ≡ next - 0 = omega arith in
    rw (deed_from start bytes field old.desk, seen_from start field old.seen, size)
    (choice_under (further_on start) (eqb deed.refusal 0) refl refl)
met_from start bytes End old = refl
met_from start bytes (Refused number) old = refl

pub meets_from : (old : Run) (bytes : List ℕ) (at : ℕ)
    → desk_course.meets old bytes at ≡ further_on at (desk_course.meets old (drop at bytes) 0)
unfolding desk_course
meets_from old bytes at =
    ap (λ (any : Reading). met_by any bytes at old) (reads_from at bytes old.seen)
    ∙ met_from at bytes (read_at (drop at bytes) 0 old.seen) old
