-- The course of a controller's run is steady, so that a recording may come in pieces:
-- `desk_is_steady`. No field has more than 133 bytes. Assumes nothing.
use mathlib.Core.Path.{◌≡◌, refl, sym, ap, subst, ◌∙◌}
use mathlib.Core.Bool.{Bool, true, false, true≢false, cond, not, ◌||◌}
use mathlib.Core.List.{List, [], ◌++◌}
use Prim.Native.Nat.{ℕ, ◌+◌, ◌-◌, ◌≤◌, ◌<◌}
use native.Mathlib.Omega.{arith}
use lib.Dec.{eqb}
use lib.ListN.{length}
use Rattle.std.proofs.Common.{Some, None}
use Rattle.recording.proofs.ValueLaws.{more_bytes_same_values}
use Rattle.lines.specs.Written.{line_room}
use Rattle.lines.proofs.Lengths.{length_given_line, length_result_line}
use Rattle.pieces.specs.Course.{taken, at_end, refused, may_go_on, waits}
use Rattle.pieces.specs.Steady.{Steady}
use Rattle.pieces.proofs.CourseLaws.{same_next, same_line}
use Rattle.controller.specs.Given.{given_part}
use Rattle.desk.specs.declared.field.Field.{Field}
use Rattle.desk.specs.declared.field.Field.TheVariants.{Setup, Start, Shared}
use Rattle.desk.specs.declared.deed.Answer.{Answer}
use Rattle.desk.specs.declared.deed.Answer.TheVariants.{Gave, Ended}
use Rattle.desk.specs.Reading.{Reading, Taken, End, Refused, read_at}
use Rattle.desk.specs.Deed.{Done, deed_of, answer_line}
use Rattle.desk.specs.Run.{Run, taking, took_by, met_by, desk_course}
use Rattle.desk.proofs.TakenLaws.{
  longest,
  Tells,
  the_end,
  a_refusal,
  reading_tells,
  read_within,
  read_shared,
}
use Rattle.desk.proofs.LineLaws.{few_given_words}
use Rattle.desk.proofs.TurnLaws.{refused_by_14}
use Rattle.desk_stream.proofs.ShiftedLaws.{meets_from}
use Rattle.desk_stream.proofs.BehindLaws.{is_settled, reading_stays}

-- ---- what is met is what was read

pub record TakenSo (old : Run) (bytes : List ℕ) (at next : ℕ) (line : List ℕ) : Type 0 where
  pub field : Field
  pub is_read : read_at bytes at old.seen ≡ Taken field next
  pub is_line_lem :
      answer_line (deed_of bytes field old.desk).desk.ram
      (deed_of bytes field old.desk).answer
      ≡ line

module _ (old : Run) (bytes : List ℕ) (at : ℕ) where
  taken_by : (test : Bool) (next' : ℕ) (line' : List ℕ) (new' : Run) (number : ℕ)
      {next : ℕ} {line : List ℕ} {new : Run}
      → cond test (taken next' line' new') (refused number) ≡ taken next line new
      → taken next' line' new' ≡ taken next line new
  taken_by true next' line' new' number same = same
  taken_by false next' line' new' number same = cc

  pub taken_so : {next : ℕ} {line : List ℕ} {new : Run}
      → desk_course.meets old bytes at ≡ taken next line new → TakenSo old bytes at next line
  unfolding desk_course met_by took_by
  taken_so {next} {line} {new} = go (read_at bytes at old.seen) refl where
    go : (reading : Reading) → read_at bytes at old.seen ≡ reading
        → met_by reading bytes at old ≡ taken next line new → TakenSo old bytes at next line
    go (Taken field next') is same =
        let deed : Done = deed_of bytes field old.desk in
        let took =
        taken_by (eqb deed.refusal 0) next' (answer_line deed.desk.ram deed.answer)
        (taking field (next' - at) deed old) deed.refusal same in
        record {
          field = field;
          is_read = is ∙ ap (Taken field) (same_next took);
          is_line_lem = same_line took;
        }
    go End is same = cc
    go (Refused number) is same = cc

-- ---- bytes behind

-- what waits for no bytes was read to the end
settled_of : (reading : Reading) (bytes : List ℕ) (at : ℕ) (old : Run)
    → waits (met_by reading bytes at old) ≡ false → is_settled reading ≡ true
unfolding met_by
settled_of (Taken field next) bytes at old wait = refl
settled_of End bytes at old wait = absurd (true≢false wait)
settled_of (Refused number) bytes at old wait = go (eqb number 0) (eqb number 5) wait where
  go : (none five : Bool) → (none || five) ≡ false → not five ≡ true
  go true five wrong = absurd (true≢false wrong)
  go false five none = rw none

same_deed : (old : Run) (bytes behind : List ℕ) (field : Field) {next : ℕ}
    → read_at bytes 0 old.seen ≡ Taken field next
    → deed_of (bytes ++ behind) field old.desk ≡ deed_of bytes field old.desk
unfolding deed_of
same_deed old bytes behind (Setup control count) is = refl
same_deed old bytes behind Start is = refl
same_deed old bytes behind (Shared field) is =
    rw (more_bytes_same_values bytes behind 0 old.seen field
    (read_shared bytes 0 old.seen is))

same_met : (old : Run) (bytes behind : List ℕ) (reading : Reading)
    → read_at bytes 0 old.seen ≡ reading
    → met_by reading (bytes ++ behind) 0 old ≡ met_by reading bytes 0 old
unfolding met_by
same_met old bytes behind (Taken field next) is = rw (same_deed old bytes behind field is)
same_met old bytes behind End is = refl
same_met old bytes behind (Refused number) is = refl

met_stays : (old : Run) (bytes behind : List ℕ)
    → waits (desk_course.meets old bytes 0) ≡ false
    → desk_course.meets old (bytes ++ behind) 0 ≡ desk_course.meets old bytes 0
unfolding desk_course
met_stays old bytes behind wait =
    let reading : Reading = read_at bytes 0 old.seen in
    ap (λ (any : Reading). met_by any (bytes ++ behind) 0 old)
    ((reading_stays bytes behind old.seen).stays (settled_of reading bytes 0 old wait))
    ∙ same_met old bytes behind reading refl

-- ---- where it waits

took_waits_not : (none : Bool) (number next : ℕ) (line : List ℕ) (new : Run)
    → may_go_on number ≡ none → waits (cond none (taken next line new) (refused number)) ≡ false
took_waits_not true number next line new is = refl
took_waits_not false number next line new is = is

-- a deed that is refused is refused by 14
deed_waits_not : (field : Field) (at next : ℕ) (bytes : List ℕ) (old : Run)
    → waits (took_by field at next (deed_of bytes field old.desk) old) ≡ false
unfolding took_by
deed_waits_not field at next bytes old =
    let deed : Done = deed_of bytes field old.desk in
    took_waits_not (eqb deed.refusal 0) deed.refusal next
    (answer_line deed.desk.ram deed.answer) (taking field (next - at) deed old)
    (refused_by_14 bytes field old.desk)

met_waits : (reading : Reading) (old : Run) (bytes : List ℕ) (at : ℕ)
    → Tells bytes at old.seen reading → waits (met_by reading bytes at old) ≡ true
    → length bytes < at + longest
unfolding met_by took_by
met_waits (Taken field next) old bytes at tells wait =
    absurd (true≢false (sym wait ∙ deed_waits_not field at next bytes old))
met_waits End old bytes at (the_end few) wait = few
met_waits (Refused number) old bytes at (a_refusal named few) wait = few wait

-- ---- lines

answer_fits : (ram : List ℕ) (answer : Answer) → length (answer_line ram answer) ≤ line_room
answer_fits ram (Gave None) = omega arith
answer_fits ram (Gave (Some given)) =
    length_given_line (given_part ram given.block given.count)
    (few_given_words ram given.block given.count)
answer_fits ram (Ended None) = omega arith
answer_fits ram (Ended (Some came)) = length_result_line came.code came.mark

-- ---- all that is asked

nothing_met : (old : Run) → desk_course.meets old [] 0 ≡ at_end
unfolding desk_course met_by read_at
nothing_met old = refl

few_wait : (old : Run) (bytes : List ℕ) (at : ℕ)
    → waits (desk_course.meets old bytes at) ≡ true → length bytes < at + longest
unfolding desk_course
few_wait old bytes at wait =
    met_waits (read_at bytes at old.seen) old bytes at (reading_tells bytes at old.seen) wait

pub desk_is_steady : Steady desk_course longest
desk_is_steady =
    record {
      from_the_place = meets_from;
      stays_taken = λ old bytes behind is. met_stays old bytes behind (ap waits is) ∙ is;
      stays_refused = λ old bytes behind is stands.
          met_stays old bytes behind (ap waits is ∙ stands) ∙ is;
      end_of_none = nothing_met;
      few_left = few_wait;
      moves_on = λ old bytes at is.
          (read_within bytes at old.seen (taken_so old bytes at is).is_read).moves_on;
      ends_inside = λ old bytes at is.
          (read_within bytes at old.seen (taken_so old bytes at is).is_read).ends_inside;
      line_fits = λ old bytes at is.
          let read = taken_so old bytes at is in
          let deed : Done = deed_of bytes read.field old.desk in
          subst (λ (line : List ℕ). length line ≤ line_room) read.is_line_lem
          (answer_fits deed.desk.ram deed.answer);
    }
