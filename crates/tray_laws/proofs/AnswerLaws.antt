-- Every list of bytes gets an answer and an end, from whatever tray: `answer_and_end`. There is one
-- such answer alone: `answered_once`. Assumes nothing.
use mathlib.Core.Path.{◌≡◌, refl, sym, ap, subst, ◌∙◌}
use mathlib.Core.Bool.{false, true≢false}
use mathlib.Core.List.{List, [], ◌∷◌, ◌++◌, append_cancel_left, append_cancel_right}
use Prim.Native.Nat.{ℕ, zero, suc, ◌<◌}
use native.Mathlib.Omega.{arith}
use lib.ListN.{length, drop, length-append, length-drop}
use Rattle.recording.specs.declared.seen.Seen.{Seen}
use Rattle.recording.specs.Seen.{seen_after}
use Rattle.recording.specs.Reading.{Reading, Taken, End, Refused, read_at}
use Rattle.recording.specs.Value.{Valued, valued_at}
use Rattle.recording.specs.Accepted.{TakesFields, no_more, a_field, seen_after_all}
use Rattle.recording.proofs.TakenLaws.{taken_within}
use Rattle.recording.proofs.ValueLaws.{seen_by_values}
use Rattle.recording.proofs.AcceptedLaws.{is_taken, takes_once}
use Rattle.recording.proofs.CutLaws.{taken_accepted}
use Rattle.lines.specs.Lines.{end_line, refusal_line}
use Rattle.tray.specs.Happening.{happenings}
use Rattle.pieces.specs.Whole.{whole}
use Rattle.tray.specs.Run.{Tray, Whole}
use Rattle.tray_laws.specs.Answered.{
  told_lines,
  tray_after,
  LastLine,
  the_end,
  a_refusal,
  Answered,
  SameAnswer,
}
use Rattle.tray_laws.proofs.OnwardLaws.{goes_on, ends_at}

-- ---- the reader takes fields as far as it can

record Stands (seen : Seen) (bytes : List ℕ) : Type 0 where
  fields : List Valued
  left : List ℕ
  takes : TakesFields seen bytes fields left
  stops : is_taken (read_at left 0 (seen_after_all fields seen)) ≡ false

-- .. by the first reading, where it does with fewer bytes
stands_by_reading : (seen : Seen) (bytes : List ℕ)
    → ((after : Seen) (rest : List ℕ) → length rest < length bytes → Stands after rest)
    → (reading : Reading) → read_at bytes 0 seen ≡ reading → Stands seen bytes
unfolding seen_after_all is_taken
stands_by_reading seen bytes fewer (Taken field next) is =
    let within = taken_within bytes 0 seen is in
    let rest = fewer (seen_after field seen) (drop next bytes)
    (omega (arith, length-drop next bytes, within.moves_on, within.ends_inside)) in
    record {
      fields = valued_at bytes field ∷ rest.fields;
      left = rest.left;
      takes = a_field is rest.takes;
      stops =
          subst
          (λ (after : Seen). is_taken (read_at rest.left 0 (seen_after_all rest.fields after))
          ≡ false)
          (sym (seen_by_values bytes seen is)) rest.stops;
    }
stands_by_reading seen bytes fewer End is =
    record { fields = []; left = bytes; takes = no_more; stops = ap is_taken is }
stands_by_reading seen bytes fewer (Refused number place) is =
    record { fields = []; left = bytes; takes = no_more; stops = ap is_taken is }

stands : (most : ℕ) (seen : Seen) (bytes : List ℕ) → length bytes < most → Stands seen bytes
stands zero seen bytes few = absurd (omega (arith, few))
stands (suc most) seen bytes few =
    stands_by_reading seen bytes
    (λ after rest fewer_bytes. stands most after rest (omega (arith, fewer_bytes)))
    (read_at bytes 0 seen) refl

-- ---- every list of bytes

-- there is a last line
record HasLast (after : Tray) (reading : Reading) : Type 0 where
  line : List ℕ
  last : LastLine after reading line

has_last : (after : Tray) (reading : Reading) → is_taken reading ≡ false → HasLast after reading
unfolding is_taken
has_last after (Taken field next) stops = absurd (true≢false stops)
has_last after End stops = record { line = end_line after.fields; last = the_end }
has_last after (Refused number place) stops =
    record { line = refusal_line number after.offset; last = a_refusal }

tray_seen : (start : Tray) (size : ℕ) (fields : List Valued)
    → (tray_after start size fields).seen ≡ seen_after_all fields start.seen
unfolding tray_after seen_after_all
tray_seen start size [] = refl
tray_seen start size (field ∷ rest) = refl

pub answer_and_end : (start : Tray) (bytes : List ℕ) → Answered start bytes
answer_and_end start bytes =
    let reached = stands (suc (length bytes)) start.seen bytes (omega arith) in
    let fields = reached.fields in
    let left = reached.left in
    let accepted = taken_accepted reached.takes in
    let front = accepted.front in
    let after = tray_after start (length front) fields in
    let last =
    has_last after (read_at left 0 (seen_after_all fields start.seen)) reached.stops in
    record {
      front = front;
      left = left;
      fields = fields;
      line = last.line;
      parts = accepted.parts;
      takes = reached.takes;
      last = last.last;
      run =
          goes_on reached.takes start refl (length front)
          (sym (ap length accepted.parts ∙ length-append front left))
          ∙ ap (λ (rest : Whole). whole (told_lines (happenings fields) start.card ++ rest.text)
          rest.run)
          (ends_at after left
          (ap (λ (seen : Seen). read_at left 0 seen) (tray_seen start (length front) fields))
          last.last);
    }

-- ---- there is one answer alone

last_stops : {after : Tray} {reading : Reading} {line : List ℕ} → LastLine after reading line
    → is_taken reading ≡ false
unfolding is_taken
last_stops the_end = refl
last_stops a_refusal = refl

pub answered_once : {start : Tray} {bytes : List ℕ} (one other : Answered start bytes)
    → SameAnswer one other
answered_once {start} {bytes} one other =
    let same =
    takes_once one.takes other.takes (last_stops one.last) (last_stops other.last) in
    let front =
    append_cancel_right one.front other.front one.left
    (sym one.parts ∙ other.parts
    ∙ ap (λ (left : List ℕ). other.front ++ left) (sym same.1)) in
    let told_lines_lem =
    ap (λ (fields : List Valued). told_lines (happenings fields) start.card ++ one.line)
    (sym same.0) in
    record {
      fields = same.0;
      front = front;
      left = same.1;
      line =
          append_cancel_left (told_lines (happenings other.fields) start.card) one.line
          other.line
          (told_lines_lem ∙ ap (λ (all : Whole). all.text) (sym one.run ∙ other.run));
    }
