-- The laws of `specs/Accepted.antt`. The reader takes one row of fields alone (`takes_once`,
-- `accepted_once`); bytes that begin alike, up to the end of a field, begin with the same fields
-- (`same_beginning`); accepted bytes before accepted bytes are accepted (`accepted_then`). Assumes
-- nothing.
use mathlib.Core.Path.{◌≡◌, refl, sym, ap, subst, ◌∙◌}
use mathlib.Core.Bool.{Bool, true, false, true≢false, ◌||◌}
use mathlib.Core.List.{List, [], ◌∷◌, ◌++◌, append-nil}
use Prim.Native.Nat.{ℕ}
use lib.ListN.{drop}
use lib.Seq.{drop-append-le}
use Rattle.recording.specs.declared.field.Field.{Field}
use Rattle.recording.specs.declared.seen.Seen.{Seen}
use Rattle.recording.specs.Field.{is_setup}
use Rattle.recording.specs.Seen.{seen_after}
use Rattle.recording.specs.Reading.{Reading, Taken, End, Refused, read_at}
use Rattle.recording.specs.Value.{Valued, valued_at, field_of}
use Rattle.recording.specs.Accepted.{
  TakesFields,
  no_more,
  a_field,
  seen_after_all,
  Accepted,
  Continues,
}
use Rattle.recording.proofs.TakenLaws.{taken_within, setup_seen_after}
use Rattle.recording.proofs.MoreBytes.{more_bytes_same_field}
use Rattle.recording.proofs.ValueLaws.{more_bytes_same_values, seen_by_values}

-- whether the reader takes a field there
unfoldable pub is_taken : Reading → Bool
is_taken (Taken field next) = true
is_taken End = false
is_taken (Refused number place) = false

-- a setup that was seen stays so
pub seen_stays : (seen : Seen) (fields : List Valued) → seen.setup ≡ true
    → (seen_after_all fields seen).setup ≡ true
unfolding seen_after_all
seen_stays seen [] is = is
seen_stays seen (field ∷ rest) is =
    seen_stays (seen_after (field_of field) seen) rest (rw is (go (is_setup (field_of field))))
  where
    go : (test : Bool) → (test || true) ≡ true
    go true = refl
    go false = refl

-- the first field that is taken is a setup, or comes behind one
pub taken_after_setup : {seen : Seen} {bytes left : List ℕ} {first : Valued} {rest : List Valued}
    → TakesFields seen bytes (first ∷ rest) left → (seen_after_all (first ∷ rest) seen).setup ≡ true
unfolding seen_after_all
taken_after_setup {seen} (a_field {bytes = bytes} {field = field} {rest = rest} is then) =
    subst (λ (after : Seen). (seen_after_all rest after).setup ≡ true)
    (sym (seen_by_values bytes seen is))
    (seen_stays (seen_after field seen) rest (setup_seen_after bytes 0 seen is))

-- ---- bytes hold one row of fields alone

-- two fields that are both the first are one, and leave the same bytes
module _ {reading : Reading} {field field' : Field} {next next' : ℕ}
    (is : reading ≡ Taken field next) (is' : reading ≡ Taken field' next') where
  same_field : field ≡ field'
  same_field = cc

  same_next : next ≡ next'
  same_next = cc

-- where some fields are taken, and the reader goes on to where it takes no more
record Behind (seen : Seen) (between : List ℕ) (first fields : List Valued) (left : List ℕ) :
    Type 0 where
  second : List Valued
  are : fields ≡ first ++ second
  takes : TakesFields (seen_after_all first seen) between second left

taken_behind : {seen : Seen} {bytes between left : List ℕ} {first fields : List Valued}
    → TakesFields seen bytes first between → TakesFields seen bytes fields left
    → is_taken (read_at left 0 (seen_after_all fields seen)) ≡ false
    → Behind seen between first fields left
unfolding seen_after_all is_taken
taken_behind {fields = fields} no_more all stops =
    record { second = fields; are = refl; takes = all }
taken_behind (a_field is then) no_more stops =
    absurd (true≢false (sym (ap is_taken is) ∙ stops))
taken_behind {seen = seen} {bytes = bytes} {between = between} {left = left}
    (a_field {field = field} {next = next} {rest = rest} is then)
    (a_field {field = field'} {next = next'} {rest = rest'} is' then') stops =
    let same : seen_after field' seen ≡ seen_after field seen =
    ap (λ (any : Field). seen_after any seen) (sym (same_field is is')) in
    let behind =
    taken_behind then
    (subst (λ (place : ℕ). TakesFields (seen_after field seen) (drop place bytes) rest' left)
    (sym (same_next is is'))
    (subst (λ (after : Seen). TakesFields after (drop next' bytes) rest' left) same then'))
    (subst (λ (after : Seen). is_taken (read_at left 0 (seen_after_all rest' after)) ≡ false)
    (seen_by_values bytes seen is' ∙ same) stops) in
    record {
      second = behind.second;
      are =
          ap (λ (any : Field). valued_at bytes any ∷ rest') (sym (same_field is is'))
          ∙ ap (λ (others : List Valued). valued_at bytes field ∷ others) behind.are;
      takes =
          subst
          (λ (after : Seen). TakesFields (seen_after_all rest after) between behind.second left)
          (sym (seen_by_values bytes seen is)) behind.takes;
    }

-- the reader takes none where it takes none at first
none_taken : {seen : Seen} {bytes left : List ℕ} {fields : List Valued}
    → TakesFields seen bytes fields left → is_taken (read_at bytes 0 seen) ≡ false
    → (fields ≡ []) × (bytes ≡ left)
unfolding is_taken
none_taken no_more stops = (refl, refl)
none_taken (a_field is then) stops = absurd (true≢false (sym (ap is_taken is) ∙ stops))

pub takes_once : {seen : Seen} {bytes left left' : List ℕ} {fields fields' : List Valued}
    → TakesFields seen bytes fields left → TakesFields seen bytes fields' left'
    → is_taken (read_at left 0 (seen_after_all fields seen)) ≡ false
    → is_taken (read_at left' 0 (seen_after_all fields' seen)) ≡ false
    → (fields ≡ fields') × (left ≡ left')
takes_once {fields = fields} one other stops stops' =
    let behind = taken_behind one other stops' in
    let nothing = none_taken behind.takes stops in (
      sym (behind.are
          ∙ ap (λ (second : List Valued). fields ++ second) nothing.0 ∙ append-nil fields),
      nothing.1,
    )

pub accepted_once : {seen : Seen} {bytes : List ℕ} {fields fields' : List Valued}
    → Accepted seen bytes fields → Accepted seen bytes fields' → fields ≡ fields'
unfolding read_at is_taken
accepted_once one other = (takes_once one other refl refl).0

-- ---- one behind the other

-- accepted bytes, and then fields that are taken of the bytes behind
pub accepted_then : {seen : Seen} {front back left : List ℕ} {first second : List Valued}
    → Accepted seen front first → TakesFields (seen_after_all first seen) back second left
    → TakesFields seen (front ++ back) (first ++ second) left
unfolding seen_after_all
accepted_then no_more behind = behind
accepted_then {seen} {front} {back} {left} {second = second}
    (a_field {field = field} {next = next} {rest = rest} is then) behind =
    let inside = (taken_within front 0 seen is).ends_inside in
    let all = accepted_then then
    (subst (λ (after : Seen). TakesFields (seen_after_all rest after) back second left)
    (seen_by_values front seen is) behind) in
    subst
    (λ (first : Valued). TakesFields seen (front ++ back) (first ∷ (rest ++ second)) left)
    (more_bytes_same_values front back 0 seen field is)
    (a_field (more_bytes_same_field front back 0 seen is)
    (subst
    (λ (bytes : List ℕ). TakesFields (seen_after field seen) bytes (rest ++ second) left)
    (sym (drop-append-le next front back inside)) all))

-- accepted bytes that begin with accepted bytes begin with the fields of these
pub same_beginning : {seen : Seen} (front back : List ℕ) {first fields : List Valued}
    → Accepted seen front first → Accepted seen (front ++ back) fields
    → Continues seen back first fields
unfolding read_at is_taken
same_beginning {seen} front back {first} beginning all =
    let taken : TakesFields seen (front ++ back) first back =
    subst (λ (fields : List Valued). TakesFields seen (front ++ back) fields back)
    (append-nil first) (accepted_then beginning no_more) in
    let behind = taken_behind taken all refl in
    record { second = behind.second; are = behind.are; back_accepted = behind.takes }
