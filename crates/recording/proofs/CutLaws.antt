-- Accepted bytes can be cut at the end of every field: `cut_at_field`. A field is read by its own
-- bytes alone (`own_bytes`), so that the bytes of fields that are taken are accepted by themselves
-- (`taken_accepted`). Assumes nothing.
use mathlib.Core.Path.{◌≡◌, refl, sym, ap, subst, ◌∙◌}
use mathlib.Core.Bool.{true, false}
use mathlib.Core.List.{List, [], ◌∷◌, ◌++◌, append_assoc}
use Rattle.std.proofs.Common.{Some}
use Prim.Native.Nat.{ℕ, ◌+◌, ◌≤◌}
use native.Mathlib.Omega.{arith}
use lib.Dec.{eqb, ltb}
use lib.ListN.{length, take, drop, take-append-drop, drop_of_length-le, get_or-append}
use lib.Seq.{length-take-le}
use borrow.Author.Tests.{ne_eqb, le-ltb}
use Rattle.card.specs.Memory.{card_blocks}
use Rattle.recording.specs.declared.tag.Tag.{Tag}
use Rattle.recording.specs.declared.field.Field.{Field}
use Rattle.recording.specs.declared.seen.Seen.{Seen}
use Rattle.recording.specs.Bytes.{bytes_left, word_at}
use Rattle.recording.specs.Tag.{tag_of, tag_at, length_fits}
use Rattle.recording.specs.Field.{field_at, value_refusal}
use Rattle.recording.specs.Seen.{seen_after}
use Rattle.recording.specs.Reading.{Taken, read_at}
use Rattle.recording.specs.Value.{Valued, valued_at}
use Rattle.recording.specs.Accepted.{
  TakesFields,
  no_more,
  a_field,
  seen_after_all,
  Accepted,
  Cut,
}
use Rattle.recording.proofs.TakenLaws.{taken_tells, taken_within}
use Rattle.recording.proofs.MoreBytes.{field_of_more}
use Rattle.recording.proofs.ValueLaws.{more_bytes_same_values, seen_by_values}
use Rattle.recording.proofs.AcceptedLaws.{accepted_then}

-- ---- a field by itself

-- a field is read by its own bytes alone
module _ (front back : List ℕ) (seen : Seen) {field : Field} {next : ℕ}
    (is : read_at (front ++ back) 0 seen ≡ Taken field next) (inside : next ≤ length front) where
  own_bytes : read_at front 0 seen ≡ Taken field next
  unfolding read_at
  own_bytes =
      let told = taken_tells (front ++ back) 0 seen is in
      let tag : Tag = told.tag in
      let size : ℕ = word_at front 1 in
      let enough : 3 ≤ length front = omega (arith, told.is_next) in
      let known : tag_at front 0 ≡ Some tag =
      ap tag_of (sym (get_or-append front back 0 0 (omega arith))) ∙ told.known in
      let same_size : word_at (front ++ back) 1 ≡ size =
      rw (
        get_or-append front back 0 1 (omega arith),
        get_or-append front back 0 2 (omega arith),
      ) refl in
      let fits : length_fits tag size ≡ true = rw same_size at told.there.fits in
      let whole : 3 + size ≤ length front = omega (arith, told.is_next, same_size) in
      let same_field : field ≡ field_at front tag 3 size =
      told.is_field
      ∙ rw same_size
      (field_of_more front back tag 3 size (record { fits = fits; inside = whole })) in
      let some : eqb (bytes_left front 0) 0 ≡ false =
      ne_eqb (bytes_left front 0) 0 (λ none. absurd (omega (arith, enough, none))) in
      let long : ltb (bytes_left front 0) 3 ≡ false = le-ltb (bytes_left front 0) 3 (omega arith) in
      let all : ltb (bytes_left front 0) (3 + size) ≡ false =
      le-ltb (bytes_left front 0) (3 + size) (omega arith) in
      let in_order : value_refusal card_blocks (field_at front tag 3 size) ≡ 0 =
      ap (value_refusal card_blocks) (sym same_field) ∙ told.in_order in
      let same_next : 3 + size ≡ next = omega (arith, told.is_next, same_size) in
      rw (some, known, long, fits, all, told.due, in_order, same_next, sym same_field) refl

-- ---- the bytes of fields that are taken

pub record Front (seen : Seen) (bytes : List ℕ) (fields : List Valued) (left : List ℕ) :
    Type 0 where
  pub front : List ℕ
  pub parts : bytes ≡ front ++ left
  pub accepted : Accepted seen front fields

pub taken_accepted : {seen : Seen} {bytes left : List ℕ} {fields : List Valued}
    → TakesFields seen bytes fields left → Front seen bytes fields left
unfolding seen_after_all
taken_accepted no_more = record { front = []; parts = refl; accepted = no_more }
taken_accepted {seen} {bytes} {left}
    (a_field {field = field} {next = next} {rest = rest} is then) =
    let behind = taken_accepted then in
    let own : List ℕ = take next bytes in
    let long : length own ≡ next =
    length-take-le next bytes (taken_within bytes 0 seen is).ends_inside in
    let all : own ++ drop next bytes ≡ bytes = take-append-drop next bytes in
    let read : read_at own 0 seen ≡ Taken field next =
    own_bytes own (drop next bytes) seen
    (ap (λ (any : List ℕ). read_at any 0 seen) all ∙ is) (omega (arith, long)) in
    let alone : Accepted seen own (valued_at own field ∷ []) =
    a_field read
    (subst (λ (any : List ℕ). Accepted (seen_after field seen) any [])
    (sym (drop_of_length-le own {i = next} (omega (arith, long)))) no_more) in
    let same : valued_at own field ≡ valued_at bytes field =
    sym (more_bytes_same_values own (drop next bytes) 0 seen field read)
    ∙ ap (λ (any : List ℕ). valued_at any field) all in
    record {
      front = own ++ behind.front;
      parts =
          sym all ∙ ap (λ (back : List ℕ). own ++ back) behind.parts
          ∙ sym (append_assoc own behind.front left);
      accepted =
          subst (λ (first : Valued). Accepted seen (own ++ behind.front) (first ∷ rest)) same
          (accepted_then alone
          (subst (λ (after : Seen). Accepted after behind.front rest)
          (sym (seen_by_values own seen read)) behind.accepted));
    }

-- ---- the cut

-- where the reader stands between the two
record Between (seen : Seen) (bytes : List ℕ) (first second : List Valued) (left : List ℕ) :
    Type 0 where
  between : List ℕ
  sooner : TakesFields seen bytes first between
  later : TakesFields (seen_after_all first seen) between second left

-- the first field that is taken, and the reader behind it
record Led (seen : Seen) (bytes : List ℕ) (told : Valued) (rest : List Valued) (left : List ℕ) :
    Type 0 where
  field : Field
  next : ℕ
  is : read_at bytes 0 seen ≡ Taken field next
  tells : valued_at bytes field ≡ told
  then : TakesFields (seen_after field seen) (drop next bytes) rest left

led : {seen : Seen} {bytes left : List ℕ} {told : Valued} {rest : List Valued}
    → TakesFields seen bytes (told ∷ rest) left → Led seen bytes told rest left
led (a_field {field = field} {next = next} is then) =
    record { field = field; next = next; is = is; tells = refl; then = then }

stands_between : {seen : Seen} {bytes left : List ℕ} (first second : List Valued)
    → TakesFields seen bytes (first ++ second) left → Between seen bytes first second left
unfolding seen_after_all
stands_between {bytes = bytes} [] second takes =
    record { between = bytes; sooner = no_more; later = takes }
stands_between {seen = seen} {bytes = bytes} {left = left} (told ∷ first) second takes =
    let behind = led takes in
    let rest =
    stands_between {seen = seen_after behind.field seen} {bytes = drop behind.next bytes}
    {left = left} first second behind.then in
    subst (λ (any : Valued). Between seen bytes (any ∷ first) second left) behind.tells
    (record {
      between = rest.between;
      sooner = a_field behind.is rest.sooner;
      later =
          subst
          (λ (after : Seen). TakesFields (seen_after_all first after) rest.between second left)
          (sym (seen_by_values bytes seen behind.is)) rest.later;
    })

pub cut_at_field : {seen : Seen} {bytes : List ℕ} (first second : List Valued)
    → Accepted seen bytes (first ++ second) → Cut seen bytes first second
cut_at_field first second accepted =
    let stands = stands_between first second accepted in
    let fields = taken_accepted stands.sooner in
    record {
      front = fields.front;
      back = stands.between;
      parts = fields.parts;
      front_accepted = fields.accepted;
      back_accepted = stands.later;
    }
