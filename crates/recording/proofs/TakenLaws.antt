-- What a reading tells. A taken field moves on and ends within the bytes (`taken_within`), is a
-- setup exactly where none was seen before (`setup_by_turn`), and leaves a reader that has seen one
-- (`setup_seen_after`); a refusal names the field's place, by a number of the reader's
-- (`refused_names_place`); the end is the end (`end_is_the_end`). Assumes nothing.
use mathlib.Core.Path.{◌≡◌, refl, sym, subst}
use mathlib.Core.Bool.{Bool, true, false, not, ◌||◌}
use mathlib.Core.List.{List}
use Rattle.std.proofs.Common.{Option, Some, None}
use Prim.Native.Nat.{ℕ, ◌+◌, ◌≤◌, ◌<◌}
use native.Mathlib.Omega.{arith}
use lib.Dec.{eqb, ltb}
use lib.ListN.{length}
use borrow.Author.Tests.{eqb-true, eqb-false, ltb-false, not-false}
use Rattle.rules.proofs.Choices.{by_test}
use Rattle.card.specs.Memory.{card_blocks}
use Rattle.recording.specs.declared.tag.Tag.{Tag}
use Rattle.recording.specs.declared.tag.Tag.TheVariants.{
  Setup,
  Word,
  Silence,
  ReadQueue,
  HostWrite,
  MoveTable,
  SetFlags,
}
use Rattle.recording.specs.declared.field.Field.{Field}
use Rattle.recording.specs.declared.seen.Seen.{Seen}
use Rattle.recording.specs.Bytes.{bytes_left, word_at}
use Rattle.recording.specs.Tag.{tag_at, length_fits}
use Rattle.recording.specs.Field.{is_setup, field_at, value_refusal, ValueThere}
use Rattle.recording.specs.Seen.{is_due, seen_after}
use Rattle.recording.specs.Reading.{Reading, Taken, End, Refused, read_by, read_at}
use Rattle.recording.proofs.TagLaws.{size_at_most}
use Rattle.recording.proofs.FieldLaws.{by_refusal}

-- ---- what lies behind each answer

-- the numbers that the reader gives
abbrev pub is_reader_number : ℕ → Bool
is_reader_number number =
    eqb number 2 || eqb number 3 || eqb number 5 || eqb number 6 || eqb number 7 || eqb number 8
    || eqb number 9

-- every test of the reader was passed
pub record TakenAt (bytes : List ℕ) (place : ℕ) (seen : Seen) (field : Field) (next : ℕ) :
    Type 0 where
  pub tag : Tag
  pub known : tag_at bytes place ≡ Some tag
  pub there : ValueThere bytes tag (place + 3) (word_at bytes (place + 1))
  pub due : is_due tag seen ≡ true
  pub is_field : field ≡ field_at bytes tag (place + 3) (word_at bytes (place + 1))
  pub in_order : value_refusal card_blocks field ≡ 0
  pub is_next : next ≡ place + 3 + word_at bytes (place + 1)

pub record RefusedAt (place number named : ℕ) : Type 0 where
  pub names_place : named ≡ place
  pub of_the_reader : is_reader_number number ≡ true

abbrev pub Tells : List ℕ → ℕ → Seen → Reading → Type 0
Tells bytes place seen (Taken field next) = TakenAt bytes place seen field next
Tells bytes place seen End = length bytes ≤ place
Tells bytes place seen (Refused number named) = RefusedAt place number named

pub record Within (bytes : List ℕ) (place next : ℕ) : Type 0 where
  pub moves_on : place < next
  pub ends_inside : next ≤ length bytes
  pub at_most : next ≤ place + 133

pub reading_tells : (bytes : List ℕ) (place : ℕ) (seen : Seen)
    → Tells bytes place seen (read_at bytes place seen)
unfolding read_at
reading_tells bytes place seen =
    by_test Claim (eqb left 0) (λ none. omega (arith, eqb-true left 0 none)) (λ some.
    by_tag some (tag_at bytes place) refl)
  where
    Claim : Reading → Type 0
    Claim = Tells bytes place seen

    left : ℕ
    left = bytes_left bytes place

    size : ℕ
    size = word_at bytes (place + 1)

    refused : {number : ℕ} → is_reader_number number ≡ true → RefusedAt place number place
    refused of_the_reader = record { names_place = refl; of_the_reader = of_the_reader }

    numbered : (other : Field) → (value_refusal card_blocks other ≡ 0 → ⊥)
        → is_reader_number (value_refusal card_blocks other) ≡ true
    numbered =
        by_refusal (λ number. (number ≡ 0 → ⊥) → is_reader_number number ≡ true)
        (λ some. absurd (some refl)) (λ _. refl) (λ _. refl) (λ _. refl) card_blocks

    by_tag : eqb left 0 ≡ false → (tag : Option Tag) → tag_at bytes place ≡ tag
        → Claim (read_by tag bytes place seen)
    by_tag some None unknown = refused refl
    by_tag some (Some tag) known =
        let field : Field = field_at bytes tag (place + 3) size in
        by_test Claim (ltb left 3) (λ _. refused refl) (λ _.
        by_test Claim (not (length_fits tag size)) (λ _. refused refl) (λ fits.
        by_test Claim (ltb left (3 + size)) (λ _. refused refl) (λ whole.
        by_test Claim (not (is_due tag seen)) (λ _. refused refl) (λ due.
        by_test Claim (eqb (value_refusal card_blocks field) 0)
        (λ in_order. record {
          tag = tag;
          known = known;
          there =
              record {
                fits = not-false (length_fits tag size) fits;
                inside = omega (arith, ltb-false left (3 + size) whole);
              };
          due = not-false (is_due tag seen) due;
          is_field = refl;
          in_order = eqb-true (value_refusal card_blocks field) 0 in_order;
          is_next = refl;
        })
        (λ refusal.
        refused (numbered field (eqb-false (value_refusal card_blocks field) 0 refusal)))))))

-- ---- where a reading ends, and whom it names

-- a setup is due where none was seen, and every other field where one was
setup_by_tag : (bytes : List ℕ) (tag : Tag) (value size : ℕ) (seen : Seen) → is_due tag seen ≡ true
    → is_setup (field_at bytes tag value size) ≡ not seen.setup
unfolding field_at
setup_by_tag bytes Setup value size seen due = sym due
setup_by_tag bytes Word value size seen due = rw due
setup_by_tag bytes Silence value size seen due = rw due
setup_by_tag bytes ReadQueue value size seen due = rw due
setup_by_tag bytes HostWrite value size seen due = rw due
setup_by_tag bytes MoveTable value size seen due = rw due
setup_by_tag bytes SetFlags value size seen due = rw due

module _ (bytes : List ℕ) (place : ℕ) (seen : Seen) where
  pub taken_tells : {field : Field} {next : ℕ} → read_at bytes place seen ≡ Taken field next
      → TakenAt bytes place seen field next
  taken_tells is = subst (Tells bytes place seen) is (reading_tells bytes place seen)

  -- a taken field moves on, by 133 bytes at the most, and ends within the bytes
  pub taken_within : {field : Field} {next : ℕ} → read_at bytes place seen ≡ Taken field next
      → Within bytes place next
  taken_within is =
      let told = taken_tells is in
      let small : word_at bytes (place + 1) ≤ 130 =
      size_at_most told.tag (word_at bytes (place + 1)) told.there.fits in
      record {
        moves_on = omega (arith, told.is_next);
        ends_inside = omega (arith, told.is_next, told.there.inside);
        at_most = omega (arith, told.is_next, small);
      }

  pub setup_by_turn : {field : Field} {next : ℕ} → read_at bytes place seen ≡ Taken field next
      → is_setup field ≡ not seen.setup
  setup_by_turn is =
      let told = taken_tells is in
      rw told.is_field
      (setup_by_tag bytes told.tag (place + 3) (word_at bytes (place + 1)) seen told.due)

  -- after a field that is taken a setup has been seen: it is one, or comes behind one
  pub setup_seen_after : {field : Field} {next : ℕ} → read_at bytes place seen ≡ Taken field next
      → (seen_after field seen).setup ≡ true
  setup_seen_after is = rw (setup_by_turn is) (go seen.setup)
    where
      go : (before : Bool) → (not before || before) ≡ true
      go true = refl
      go false = refl

  pub refused_names_place : {number named : ℕ} → read_at bytes place seen ≡ Refused number named
      → RefusedAt place number named
  refused_names_place is = subst (Tells bytes place seen) is (reading_tells bytes place seen)

  pub end_is_the_end : read_at bytes place seen ≡ End → length bytes ≤ place
  end_is_the_end is = subst (Tells bytes place seen) is (reading_tells bytes place seen)
