-- A run goes on behind the fields that are taken (`goes_on`), and ends where the reader takes none
-- (`ends_at`), so that it goes through accepted bytes to END (`accepted_run`). Assumes nothing.
use mathlib.Core.Path.{◌≡◌, refl, sym, ap, ◌∙◌}
use mathlib.Core.Bool.{true, true≢false}
use mathlib.Core.List.{List, [], ◌∷◌, ◌++◌, append_assoc, cons≢nil}
use Prim.Native.Nat.{ℕ, suc, ◌+◌, ◌-◌, ◌≤◌}
use native.Mathlib.Omega.{arith}
use lib.ListN.{length, drop, length-drop}
use borrow.Author.Tests.{ne_eqb}
use Rattle.recording.specs.declared.field.Field.{Field}
use Rattle.recording.specs.declared.seen.Seen.{Seen}
use Rattle.recording.specs.Seen.{seen_after}
use Rattle.recording.specs.Reading.{Reading, Taken, End, Refused, read_at}
use Rattle.recording.specs.Value.{Valued, valued_at}
use Rattle.recording.specs.Accepted.{TakesFields, no_more, a_field, seen_after_all, Accepted}
use Rattle.recording.proofs.TakenLaws.{taken_within, is_reader_number, refused_names_place}
use Rattle.recording.proofs.ValueLaws.{seen_by_values}
use Rattle.lines.specs.Lines.{end_line, refusal_line}
use Rattle.pieces.specs.LastLine.{counted, last_line}
use Rattle.pieces.specs.Whole.{whole, with_line}
use Rattle.tray.specs.Happening.{happenings}
use Rattle.tray.specs.Run.{Tray, taking, taking_line, Whole, whole_from}
use Rattle.tray_laws.specs.Answered.{
  told_lines,
  told_card,
  tray_after,
  LastLine,
  the_end,
  a_refusal,
}
use Rattle.tray_laws.proofs.PrintedLaws.{whole_of, whole_by_reading}

-- ---- how far a run has come

-- but for what the reader has seen
abbrev with_seen : Seen → Tray → Tray
with_seen seen old =
    record { seen = seen; card = old.card; fields = old.fields; offset = old.offset }

-- a field, and then others
after_field : (start : Tray) (bytes : List ℕ) (field : Field) (next size : ℕ)
    (rest : List Valued) → (rest ≡ [] → size ≡ 0) → read_at bytes 0 start.seen ≡ Taken field next
    → tray_after (taking bytes field next start) size rest
    ≡ tray_after start (next + size) (valued_at bytes field ∷ rest)
unfolding tray_after told_card taking seen_after_all happenings
after_field start bytes field next size [] none is =
    let same : next ≡ next + size = omega (arith, none refl) in
    ap (λ (seen : Seen). with_seen seen (taking bytes field next start))
    (sym (seen_by_values bytes start.seen is))
    ∙ ap (λ (more : ℕ). tray_after start more (valued_at bytes field ∷ [])) same
after_field start bytes field next size (other ∷ rest) none is =
    let fields : counted (counted (start.fields + 1) + length (other ∷ rest))
    ≡ counted (start.fields + suc (length (other ∷ rest))) = omega arith in
    let offset : counted (counted (start.offset + next) + size)
    ≡ counted (start.offset + (next + size)) = omega arith in
    rw (fields, offset)
    (ap (λ (seen : Seen). with_seen (seen_after_all (other ∷ rest) seen)
    (tray_after start (next + size) (valued_at bytes field ∷ other ∷ rest)))
    (sym (seen_by_values bytes start.seen is)))

-- no field, no bytes
no_bytes : {seen : Seen} {bytes left : List ℕ} {fields : List Valued}
    → TakesFields seen bytes fields left → fields ≡ [] → length bytes - length left ≡ 0
no_bytes no_more none = omega arith
no_bytes (a_field is then) none = absurd (cons≢nil none)

left_within : {seen : Seen} {bytes left : List ℕ} {fields : List Valued}
    → TakesFields seen bytes fields left → length left ≤ length bytes
left_within no_more = omega arith
left_within {bytes = bytes} (a_field {next = next} is then) =
    omega (arith, left_within then, length-drop next bytes)

-- the run goes on behind the fields that are taken
pub goes_on : {seen : Seen} {bytes left : List ℕ} {fields : List Valued}
    → TakesFields seen bytes fields left → (start : Tray) → start.seen ≡ seen → (size : ℕ)
    → size + length left ≡ length bytes
    → whole_from start bytes
    ≡ whole
    (told_lines (happenings fields) start.card
    ++ (whole_from (tray_after start size fields) left).text)
    (whole_from (tray_after start size fields) left).run
unfolding tray_after told_lines happenings whole_of taking taking_line
goes_on no_more start same size long = refl
goes_on {seen = seen} {bytes = bytes} {left = left}
    (a_field {field = field} {next = next} {rest = rest} is then) start same size long =
    let new : Tray = taking bytes field next start in
    let line : List ℕ = taking_line bytes field start in
    let behind : ℕ = length (drop next bytes) - length left in
    let after : Tray = tray_after new behind rest in
    let told : List ℕ = told_lines (happenings rest) new.card in
    let read : read_at bytes 0 start.seen ≡ Taken field next =
    ap (λ (before : Seen). read_at bytes 0 before) same ∙ is in
    let field_bytes = length-drop next bytes in
    let ends = (taken_within bytes 0 seen is).ends_inside in
    whole_by_reading start bytes (Taken field next) read
    ∙ ap (with_line line)
    (goes_on then new (ap (seen_after field) same) behind (omega (arith, left_within then)))
    ∙ ap (λ (text : List ℕ). whole text (whole_from after left).run)
    (sym (append_assoc line told (whole_from after left).text))
    ∙ ap (λ (tray : Tray). whole ((line ++ told) ++ (whole_from tray left).text)
    (whole_from tray left).run)
    (after_field start bytes field next behind rest (no_bytes then) read
    ∙ ap (λ (more : ℕ). tray_after start more (valued_at bytes field ∷ rest))
    (omega (arith, left_within then, field_bytes, ends, long)))

-- ---- where the reader takes no field

-- a refusal has a number of the reader's, which 0 is not
refusal_printed : (number fields offset : ℕ) → is_reader_number number ≡ true
    → last_line number fields offset ≡ refusal_line number offset
unfolding last_line
refusal_printed number fields offset of_the_reader =
    rw (ne_eqb number 0
    (λ zero. true≢false (sym of_the_reader ∙ ap is_reader_number zero)))
    refl

-- the run ends there
pub ends_at : (after : Tray) (left : List ℕ) {reading : Reading} {line : List ℕ}
    → read_at left 0 after.seen ≡ reading → LastLine after reading line
    → whole_from after left ≡ whole line after
unfolding whole_of last_line
ends_at after left is the_end = whole_by_reading after left End is
ends_at after left is (a_refusal {number = number} {place = place}) =
    whole_by_reading after left (Refused number place) is
    ∙ ap (λ (line : List ℕ). whole line after)
    (refusal_printed number after.fields after.offset
    (refused_names_place left 0 after.seen is).of_the_reader)

-- ---- bytes that the reader accepts

pub accepted_run : {bytes : List ℕ} {fields : List Valued} (start : Tray)
    → Accepted start.seen bytes fields
    → whole_from start bytes
    ≡ whole
    (told_lines (happenings fields) start.card
    ++ end_line (tray_after start (length bytes) fields).fields)
    (tray_after start (length bytes) fields)
unfolding read_at
accepted_run {bytes} {fields} start accepted =
    goes_on accepted start refl (length bytes) (omega arith)
    ∙ ap (λ (rest : Whole). whole (told_lines (happenings fields) start.card ++ rest.text)
    rest.run)
    (ends_at (tray_after start (length bytes) fields) [] refl the_end)
