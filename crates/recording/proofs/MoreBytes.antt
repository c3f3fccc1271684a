-- Bytes that come behind change no reading that is settled (`settled_stays`): a taken field, and
-- every refusal but 5. 133 bytes settle any (`settled_by_133`). Assumes nothing.
use mathlib.Core.Path.{◌≡◌, refl, ap, ◌∙◌}
use mathlib.Core.Logic.{◌≢◌}
use mathlib.Core.Bool.{true, false, not}
use mathlib.Core.List.{List, ◌++◌}
use Rattle.std.proofs.Common.{Option, Some, None}
use Prim.Native.Nat.{ℕ, zero, suc, ◌+◌, ◌*◌, ◌≤◌, ◌<◌}
use native.Mathlib.Omega.{arith}
use lib.Dec.{eqb, ltb}
use lib.ListN.{length, length-append, get_or-append}
use borrow.Author.Tests.{
  eqb-true,
  eqb-false,
  ltb-true,
  ltb-false,
  ne_eqb,
  le-ltb,
  not-false,
}
use Rattle.rules.proofs.Choices.{by_test}
use Rattle.rules.proofs.Stays.{Stays, same, open_way, same_way}
use Rattle.card.specs.Memory.{card_blocks}
use Rattle.recording.specs.declared.tag.Tag.{Tag}
use Rattle.recording.specs.declared.tag.Tag.TheVariants.{
  Setup,
  Word,
  Silence,
  ReadQueue,
  HostWrite,
  MoveTable,
  SetFlags,
}
use Rattle.recording.specs.declared.field.Field.{Field}
use Rattle.recording.specs.declared.seen.Seen.{Seen}
use Rattle.recording.specs.Bytes.{bytes_left, byte_at, word_at, time_at, words_at}
use Rattle.recording.specs.Tag.{tag_at, length_fits}
use Rattle.recording.specs.Field.{field_at, value_refusal, ValueThere}
use Rattle.recording.specs.Seen.{is_due}
use Rattle.recording.specs.Reading.{Reading, Taken, End, Refused, read_by, read_at}
use Rattle.recording.specs.AsCoded.Pieces.{is_settled}
use Rattle.recording.proofs.TagLaws.{size_at_most}
use Rattle.recording.proofs.FieldLaws.{
  by_refusal,
  setup_there,
  word_there_lem,
  silence_there,
  address_there,
  table_there,
  flags_there,
}

-- ---- what stands in the front is there still

module _ (front back : List ℕ) where
  pub byte_of_more : (place : ℕ) → place < length front
      → byte_at (front ++ back) place ≡ byte_at front place
  byte_of_more place inside = get_or-append front back 0 place inside

  pub word_of_more : (place : ℕ) → place + 2 ≤ length front
      → word_at (front ++ back) place ≡ word_at front place
  word_of_more place inside =
      rw (byte_of_more place (omega arith), byte_of_more (place + 1) (omega arith))

  time_of_more : (place : ℕ) → place + 4 ≤ length front
      → time_at (front ++ back) place ≡ time_at front place
  time_of_more place inside =
      rw (word_of_more place (omega arith), word_of_more (place + 2) (omega arith))

  pub words_of_more : (first count : ℕ) → first + 2 * count ≤ length front
      → words_at (front ++ back) first count ≡ words_at front first count
  words_of_more first zero inside = refl
  words_of_more first (suc count) inside =
      rw (word_of_more first (omega arith), words_of_more (first + 2) count (omega arith))

  pub field_of_more : (tag : Tag) (value size : ℕ) → ValueThere front tag value size
      → field_at (front ++ back) tag value size ≡ field_at front tag value size
  unfolding field_at
  field_of_more Setup value size there =
      let inside : value + 3 ≤ length front = setup_there there refl in
      rw (
        byte_of_more value (omega arith),
        byte_of_more (value + 1) (omega arith),
        byte_of_more (value + 2) (omega arith),
      )
  field_of_more Word value size there =
      let inside : value + 7 ≤ length front = word_there_lem there refl in
      rw (
        byte_of_more value (omega arith),
        word_of_more (value + 1) (omega arith),
        time_of_more (value + 3) (omega arith),
      )
  field_of_more Silence value size there =
      let inside : value + 5 ≤ length front = silence_there there refl in
      rw (byte_of_more value (omega arith), time_of_more (value + 1) (omega arith))
  field_of_more ReadQueue value size there = refl
  field_of_more HostWrite value size there =
      let inside : 2 ≤ size = address_there there refl in
      rw (word_of_more value (omega (arith, there.inside)))
  field_of_more MoveTable value size there = rw (byte_of_more value (table_there there refl))
  field_of_more SetFlags value size there = rw (byte_of_more value (flags_there there refl))

-- ---- a settled reading stays

module _ (front back : List ℕ) (place : ℕ) (seen : Seen) where
  reading_stays : Stays is_settled (read_at front place seen) (read_at (front ++ back) place seen)
  unfolding read_at
  reading_stays =
      open_way is_settled End (eqb left 0) (eqb left' 0) refl still_some (λ some.
      rw (byte_of_more front back place (omega (arith, eqb-false left 0 some)))
      (by_tag (tag_at front place)))
    where
      left : ℕ
      left = bytes_left front place

      left' : ℕ
      left' = bytes_left (front ++ back) place

      size : ℕ
      size = word_at front (place + 1)

      all : ℕ
      all = 3 + size

      more : length (front ++ back) ≡ length front + length back
      more = length-append front back

      still_some : eqb left 0 ≡ false → eqb left' 0 ≡ false
      still_some some = ne_eqb left' 0 (λ none. eqb-false left 0 some (omega (arith, more)))

      still : (least : ℕ) → ltb left least ≡ false → ltb left' least ≡ false
      still least long = le-ltb left' least (omega (arith, more, ltb-false left least long))

      there : (tag : Tag) → not (length_fits tag size) ≡ false → ltb left all ≡ false
          → ValueThere front tag (place + 3) size
      there tag fits whole =
          record {
            fits = not-false (length_fits tag size) fits;
            inside = omega (arith, ltb-false left all whole);
          }

      by_tag : (tag : Option Tag)
          → Stays is_settled (read_by tag front place seen)
          (read_by tag (front ++ back) place seen)
      by_tag None = same is_settled
      by_tag (Some tag) =
          open_way is_settled (Refused 5 place) (ltb left 3) (ltb left' 3) refl (still 3) (λ long.
          rw (word_of_more front back (place + 1) (omega (arith, ltb-false left 3 long)))
          (same_way is_settled (Refused 7 place) (not (length_fits tag size)) (λ fits.
          open_way is_settled (Refused 5 place) (ltb left all) (ltb left' all) refl (still all)
          (λ whole.
          rw (field_of_more front back tag (place + 3) size (there tag fits whole))
          (same is_settled)))))

  -- bytes that come behind change no reading that is settled
  pub settled_stays : is_settled (read_at front place seen) ≡ true
      → read_at (front ++ back) place seen ≡ read_at front place seen
  settled_stays = reading_stays.stays

  pub more_bytes_same_field : {field : Field} {next : ℕ}
      → read_at front place seen ≡ Taken field next
      → read_at (front ++ back) place seen ≡ Taken field next
  more_bytes_same_field is = settled_stays (ap is_settled is) ∙ is

  pub more_bytes_same_refusal : {number named : ℕ}
      → read_at front place seen ≡ Refused number named → number ≢ 5
      → read_at (front ++ back) place seen ≡ Refused number named
  more_bytes_same_refusal {number} is other =
      settled_stays (ap is_settled is ∙ rw (ne_eqb number 5 other)) ∙ is

-- ---- enough bytes settle a reading: a field has 133 at the most

pub settled_by_133 : (bytes : List ℕ) (place : ℕ) (seen : Seen) → place + 133 ≤ length bytes
    → is_settled (read_at bytes place seen) ≡ true
unfolding read_at
settled_by_133 bytes place seen enough =
    by_test Settled (eqb left 0) (λ none. absurd (omega (arith, eqb-true left 0 none))) (λ _.
    by_tag (tag_at bytes place))
  where
    Settled : Reading → Type 0
    Settled reading = is_settled reading ≡ true

    left : ℕ
    left = bytes_left bytes place

    size : ℕ
    size = word_at bytes (place + 1)

    not_5 : (other : Field) → not (eqb (value_refusal card_blocks other) 5) ≡ true
    not_5 = by_refusal (λ number. not (eqb number 5) ≡ true) refl refl refl refl card_blocks

    by_tag : (tag : Option Tag) → Settled (read_by tag bytes place seen)
    by_tag None = refl
    by_tag (Some tag) =
        let field : Field = field_at bytes tag (place + 3) size in
        by_test Settled (ltb left 3)
        (λ short. absurd (omega (arith, ltb-true left 3 short))) (λ _.
        by_test Settled (not (length_fits tag size)) (λ _. refl) (λ fits.
        by_test Settled (ltb left (3 + size)) (λ short.
        absurd (omega (
          arith,
          ltb-true left (3 + size) short,
          size_at_most tag size (not-false (length_fits tag size) fits),
        ))) (λ _.
        by_test Settled (not (is_due tag seen)) (λ _. refl) (λ _.
        by_test Settled (eqb (value_refusal card_blocks field) 0) (λ _. refl) (λ _.
        not_5 field)))))
