-- What a reading tells of the bytes (`reading_tells`), and what a field that was read brings: it
-- ends further on, inside the bytes, and the words of a write stand there. Assumes nothing.
use Rattle.std.proofs.Common.{
  ◌≡◌,
  ℕ,
  ◌+◌,
  ◌<◌,
  ◌≤◌,
  Bool,
  true,
  false,
  not,
  eqb,
  Option,
  Some,
  Result,
  Ok,
  List,
  length,
  sym,
  refl,
  subst,
  true≢false,
  arith,
  eqb-true,
}
use Rattle.rules.proofs.Choices.{by_test}
use Rattle.refusals.specs.declared.Refusal.{Refusal}
use Rattle.recording.specs.declared.field.Field.{Field as SharedField}
use Rattle.recording.specs.declared.seen.Seen.{Seen}
use Rattle.recording.specs.Reading.{Reading as SharedReading}
use Rattle.recording.specs.Bytes.{bytes_left, byte_at}
use Rattle.recording.specs.Reading as recording
use Rattle.recording.proofs.TakenLaws.{taken_within}
use Rattle.recording.proofs.InOrder.{taken_in_order}
use Rattle.recording.proofs.TakenWords.{taken_words_there}
use Rattle.recording.proofs.WaitingLaws.{few_at_the_end, few_at_a_refusal}
use Rattle.pieces.specs.Course.{may_go_on}
use Rattle.desk.specs.declared.field.Field.{Field}
use Rattle.desk.specs.declared.field.Field.TheVariants.{Setup, Start, Shared}
use Rattle.desk.specs.Reading.{
  Reading,
  Taken,
  End,
  Refused,
  setup_tag,
  start_tag,
  own_refusal,
  own_at,
  is_shared,
  shared_as,
  read_at,
  reading,
}
use Rattle.desk.specs.declared.reading.Taken.{Taken as FieldTaken}
use Rattle.desk.specs.AsCoded.Held.{WordsThere, WasRead}
use Rattle.desk.proofs.ReadingLaws.{own_whole, own_waits}

-- no field has more bytes
abbrev pub longest : ℕ
longest = 133

module _ (bytes : List ℕ) (place : ℕ) (seen : Seen) where
  -- where the next field begins
  pub record Within (next : ℕ) : Type 0 where
    pub moves_on : place < next
    pub ends_inside : next ≤ length bytes

  pub data Tells : Reading → Type 0 where
    the_end : length bytes < place + longest → Tells End
    a_refusal : (number : ℕ) → (may_go_on number ≡ true → length bytes < place + longest)
        → Tells (Refused number)
    a_setup : {control count next : ℕ} → Within next → Tells (Taken (Setup control count) next)
    a_start : {next : ℕ} → Within next → Tells (Taken Start next)
    a_shared : {field : SharedField} {next : ℕ} → Within next
        → recording.read_at bytes place seen ≡ recording.Taken field next
        → Tells (Taken (Shared field) next)

  own_within : (size : ℕ) (due : Bool) → eqb (own_refusal bytes place size due) 0 ≡ true
      → Within (place + 3 + size)
  own_within size due none =
      let number : ℕ = own_refusal bytes place size due in
      let whole = own_whole bytes place size due (eqb-true number 0 none) in
      record { moves_on = omega arith; ends_inside = omega (arith, whole) }

  own_refused : (size : ℕ) (due : Bool) → size ≤ 4
      → eqb (own_refusal bytes place size due) 0 ≡ false
      → Tells (Refused (own_refusal bytes place size due))
  own_refused size due short some =
      a_refusal (own_refusal bytes place size due) (λ wait.
      omega (
        arith,
        own_waits bytes place size due
            (rw some at wait),
      ))

  shared_tells : (reading : SharedReading) → recording.read_at bytes place seen ≡ reading
      → Tells (shared_as reading)
  shared_tells (recording.Taken field next) is =
      let within = taken_within bytes place seen is in
      a_shared
      (record { moves_on = within.moves_on; ends_inside = within.ends_inside })
      is
  shared_tells recording.End is = the_end (few_at_the_end bytes place seen is)
  shared_tells (recording.Refused number named) is =
      a_refusal number (few_at_a_refusal bytes place seen is)

  pub reading_tells : Tells (read_at bytes place seen)
  unfolding read_at own_at
  reading_tells =
      let tag : ℕ = byte_at bytes place in
      by_test Tells (eqb (bytes_left bytes place) 0)
      (λ none. the_end (omega (arith, eqb-true (bytes_left bytes place) 0 none))) (λ _.
      by_test Tells (eqb tag setup_tag)
      (λ _. by_test Tells (eqb (own_refusal bytes place 4 (not seen.setup)) 0)
      (λ none. a_setup (own_within 4 (not seen.setup) none))
      (λ some. own_refused 4 (not seen.setup) (omega arith) some))
      (λ _. by_test Tells (eqb tag start_tag)
      (λ _. by_test Tells (eqb (own_refusal bytes place 0 seen.setup) 0)
      (λ none. a_start (own_within 0 seen.setup none))
      (λ some. own_refused 0 seen.setup (omega arith) some))
      (λ _. by_test Tells (is_shared tag)
      (λ _. shared_tells (recording.read_at bytes place seen) refl)
      (λ _. a_refusal 6 (λ never. absurd (true≢false (sym never)))))))

  -- ---- a field that was read

  pub taken_tells : {field : Field} {next : ℕ} → read_at bytes place seen ≡ Taken field next
      → Tells (Taken field next)
  taken_tells is = subst Tells is reading_tells

  within_of : {field : Field} {next : ℕ} → Tells (Taken field next) → Within next
  within_of (a_setup within) = within
  within_of (a_start within) = within
  within_of (a_shared within is) = within

  pub read_within : {field : Field} {next : ℕ} → read_at bytes place seen ≡ Taken field next
      → Within next
  read_within is = within_of (taken_tells is)

  shared_of : {field : SharedField} {next : ℕ} → Tells (Taken (Shared field) next)
      → recording.read_at bytes place seen ≡ recording.Taken field next
  shared_of (a_shared within is) = is

  -- one of document 01's fields was read as there
  pub read_shared : {field : SharedField} {next : ℕ}
      → read_at bytes place seen ≡ Taken (Shared field) next
      → recording.read_at bytes place seen ≡ recording.Taken field next
  read_shared is = shared_of (taken_tells is)

  pub reads_on : (answer : Result (Option FieldTaken) Refusal) (found : Option FieldTaken)
      (told : FieldTaken)
      → reading answer ≡ read_at bytes place seen → answer ≡ Ok found → found ≡ Some told
      → WasRead bytes told.field place told.next
  reads_on answer found told is_reading is some =
      let taken : read_at bytes place seen ≡ Taken told.field told.next =
      rw (is, some) at (sym is_reading) in
      record {
        words =
            record {
              few = λ address first count is_write_lem.
                  (taken_in_order bytes place seen
                  (read_shared (rw is_write_lem at taken))).at_most;
              there = λ address first count is_write_lem.
                  taken_words_there bytes place seen (read_shared (rw is_write_lem at taken));
            };
        further = omega (arith, (read_within taken).moves_on);
      }

-- what the record tells, for `search` and `omega`
pub words_of_read : {window : List ℕ} {told : Field} {at next : ℕ} → WasRead window told at next
    → WordsThere window told
words_of_read read = read.words

pub further_of_read : {window : List ℕ} {told : Field} {at next : ℕ}
    → WasRead window told at next → at ≤ next
further_of_read read = read.further

pub ruleset was_read = (words_of_read, further_of_read)
