-- The laws of `specs/Reading.antt`: what is read, by the answers to the reader's tests, in the
-- order in which the code asks them. Assumes nothing.
use mathlib.Core.Path.{◌≡◌}
use mathlib.Core.Bool.{true, false}
use mathlib.Core.List.{List}
use Rattle.std.proofs.Common.{Some, None}
use Prim.Native.Nat.{ℕ, ◌+◌, ◌≤◌, ◌<◌}
use native.Mathlib.Omega.{arith}
use lib.Dec.{eqb, ltb}
use lib.ListN.{length}
use borrow.Author.Tests.{eq-eqb, ne_eqb, lt-ltb, le-ltb}
use Rattle.refusals.specs.declared.Refusal.{Refusal}
use Rattle.refusals.specs.Number.{number_of}
use Rattle.refusals.proofs.NumberLaws.{same_refusal}
use Rattle.card.specs.Memory.{card_blocks}
use Rattle.recording.specs.declared.tag.Tag.{Tag}
use Rattle.recording.specs.declared.field.Field.{Field}
use Rattle.recording.specs.declared.seen.Seen.{Seen}
use Rattle.recording.specs.Bytes.{bytes_left, word_at}
use Rattle.recording.specs.Tag.{tag_at, length_fits}
use Rattle.recording.specs.Field.{field_at, value_refusal}
use Rattle.recording.specs.Seen.{is_due}
use Rattle.recording.specs.Reading.{Taken, End, Refused, read_at}

-- no refusal has the number of none
pub not_none : (refusal : Refusal) → number_of refusal ≡ 0 → ⊥
not_none refusal none =
    let same : Some refusal ≡ None = same_refusal (Some refusal) None none in absurd (cc)

module _ (bytes : List ℕ) (place : ℕ) (seen : Seen) where
  pub read_end : length bytes ≤ place → End ≡ read_at bytes place seen
  unfolding read_at
  read_end none = rw (eq-eqb (bytes_left bytes place) 0 (omega arith))

  module _ (some : place < length bytes) where
    some_left : eqb (bytes_left bytes place) 0 ≡ false
    some_left = ne_eqb (bytes_left bytes place) 0 (λ none. absurd (omega (arith, none)))

    pub read_unknown : tag_at bytes place ≡ None → Refused 6 place ≡ read_at bytes place seen
    unfolding read_at
    read_unknown unknown = rw (some_left, unknown)

    module _ (tag : Tag) (known : tag_at bytes place ≡ Some tag) where
      pub read_no_length : bytes_left bytes place < 3 → Refused 5 place ≡ read_at bytes place seen
      unfolding read_at
      read_no_length short = rw (some_left, known, lt-ltb (bytes_left bytes place) 3 short)

      module _ (size : ℕ) (long : 3 ≤ bytes_left bytes place)
          (is_size : word_at bytes (place + 1) ≡ size) where
        enough : ltb (bytes_left bytes place) 3 ≡ false
        enough = le-ltb (bytes_left bytes place) 3 long

        pub read_other_length : length_fits tag size ≡ false
            → Refused 7 place ≡ read_at bytes place seen
        unfolding read_at
        read_other_length other = rw (some_left, known, enough, is_size, other)

        module _ (fits : length_fits tag size ≡ true) where
          pub read_no_value : bytes_left bytes place < 3 + size
              → Refused 5 place ≡ read_at bytes place seen
          unfolding read_at
          read_no_value short =
              rw (
                some_left,
                known,
                enough,
                is_size,
                fits,
                lt-ltb (bytes_left bytes place) (3 + size) short,
              )

          module _ (inside : 3 + size ≤ bytes_left bytes place) where
            whole : ltb (bytes_left bytes place) (3 + size) ≡ false
            whole = le-ltb (bytes_left bytes place) (3 + size) inside

            pub read_out_of_turn : is_due tag seen ≡ false
                → Refused 9 place ≡ read_at bytes place seen
            unfolding read_at
            read_out_of_turn not_due = rw (some_left, known, enough, is_size, fits, whole, not_due)

            module _ (due : is_due tag seen ≡ true) (field : Field)
                (is_field : field_at bytes tag (place + 3) size ≡ field) where
              pub read_refused : (refusal : Refusal)
                  → number_of refusal ≡ value_refusal card_blocks field
                  → Refused (number_of refusal) place ≡ read_at bytes place seen
              unfolding read_at
              read_refused refusal is =
                  rw (
                    some_left,
                    known,
                    enough,
                    is_size,
                    fits,
                    whole,
                    due,
                    is_field,
                    ← is,
                    ne_eqb (number_of refusal) 0 (not_none refusal),
                  )

              pub read_taken : value_refusal card_blocks field ≡ 0
                  → Taken field (place + 3 + size) ≡ read_at bytes place seen
              unfolding read_at
              read_taken in_order =
                  rw (
                    some_left,
                    known,
                    enough,
                    is_size,
                    fits,
                    whole,
                    due,
                    is_field,
                    in_order,
                  )
