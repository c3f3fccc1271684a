-- A recording may be read as if it began further on: what is read is the same, with every place
-- counted from there (`dropped_bytes`, `shifted_reading`), and so are the words of a host write
-- (`dropped_words`, `shifted_words`). Assumes nothing.
use mathlib.Core.Path.{◌≡◌, refl, sym}
use mathlib.Core.Bool.{not}
use mathlib.Core.List.{List, ◌++◌}
use Rattle.std.proofs.Common.{Option, Some, None}
use Prim.Native.Nat.{ℕ, zero, suc, ◌+◌}
use native.Mathlib.Nat.{add_assoc}
use native.Mathlib.Omega.{arith}
use lib.Dec.{eqb, ltb}
use lib.ListN.{length, drop, length-drop}
use lib.Seq.{get_or-drop, drop-append_seam}
use Rattle.rules.proofs.Choices.{choice_under}
use Rattle.card.specs.Memory.{card_blocks}
use Rattle.recording.specs.declared.tag.Tag.{Tag}
use Rattle.recording.specs.declared.tag.Tag.TheVariants as tags
use Rattle.recording.specs.declared.field.Field.{Field}
use Rattle.recording.specs.declared.seen.Seen.{Seen}
use Rattle.recording.specs.declared.field.Field.TheVariants.{
  Setup,
  Word,
  Silence,
  ReadQueue,
  HostWrite,
  MoveTable,
  SetFlags,
}
use Rattle.recording.specs.Bytes.{bytes_left, byte_at, word_at, time_at, words_at}
use Rattle.recording.specs.Tag.{tag_at, length_fits}
use Rattle.recording.specs.Field.{field_at, value_refusal}
use Rattle.recording.specs.Seen.{is_due, seen_after}
use Rattle.recording.specs.Reading.{Reading, read_by, read_at}
use Rattle.recording.specs.AsCoded.Pieces.{shifted_field, shifted}

-- the shift is seen in no refusal
refusal_of_shifted : (start : ℕ) (field : Field)
    → value_refusal card_blocks (shifted_field start field) ≡ value_refusal card_blocks field
refusal_of_shifted start (Setup station table flags) = refl
refusal_of_shifted start (Word marks value time) = refl
refusal_of_shifted start (Silence line time) = refl
refusal_of_shifted start ReadQueue = refl
refusal_of_shifted start (HostWrite address first count) = refl
refusal_of_shifted start (MoveTable table) = refl
refusal_of_shifted start (SetFlags flags) = refl

-- nor in what the reader has seen
pub seen_of_shifted : (start : ℕ) (field : Field) (seen : Seen)
    → seen_after (shifted_field start field) seen ≡ seen_after field seen
seen_of_shifted start (Setup station table flags) seen = refl
seen_of_shifted start (Word marks value time) seen = refl
seen_of_shifted start (Silence line time) seen = refl
seen_of_shifted start ReadQueue seen = refl
seen_of_shifted start (HostWrite address first count) seen = refl
seen_of_shifted start (MoveTable table) seen = refl
seen_of_shifted start (SetFlags flags) seen = refl

module _ (start : ℕ) (bytes : List ℕ) where
  -- ---- numbers

  pub byte_of_drop : (place : ℕ) → byte_at bytes (start + place) ≡ byte_at (drop start bytes) place
  byte_of_drop place = sym (get_or-drop start bytes place 0)

  pub word_of_drop : (place : ℕ) → word_at bytes (start + place) ≡ word_at (drop start bytes) place
  word_of_drop place =
      rw (add_assoc start place 1, byte_of_drop place, byte_of_drop (place + 1))

  time_of_drop : (place : ℕ) → time_at bytes (start + place) ≡ time_at (drop start bytes) place
  time_of_drop place =
      rw (add_assoc start place 2, word_of_drop place, word_of_drop (place + 2))

  -- the words of a host write
  pub dropped_words : (first count : ℕ)
      → words_at bytes (start + first) count ≡ words_at (drop start bytes) first count
  dropped_words first zero = refl
  dropped_words first (suc count) =
      rw (add_assoc start first 2, word_of_drop first, dropped_words (first + 2) count)

  -- ---- fields and readings

  field_of_drop : (tag : Tag) (value size : ℕ)
      → field_at bytes tag (start + value) size
      ≡ shifted_field start (field_at (drop start bytes) tag value size)
  unfolding field_at
  field_of_drop tags.Setup value size =
      rw (
        add_assoc start value 1,
        add_assoc start value 2,
        byte_of_drop value,
        byte_of_drop (value + 1),
        byte_of_drop (value + 2),
      )
  field_of_drop tags.Word value size =
      rw (
        add_assoc start value 1,
        add_assoc start value 3,
        byte_of_drop value,
        word_of_drop (value + 1),
        time_of_drop (value + 3),
      )
  field_of_drop tags.Silence value size =
      rw (add_assoc start value 1, byte_of_drop value, time_of_drop (value + 1))
  field_of_drop tags.ReadQueue value size = refl
  field_of_drop tags.HostWrite value size = rw (word_of_drop value, add_assoc start value 2)
  field_of_drop tags.MoveTable value size = rw (byte_of_drop value)
  field_of_drop tags.SetFlags value size = rw (byte_of_drop value)

  pub dropped_bytes : (place : ℕ) (seen : Seen)
      → read_at bytes (start + place) seen ≡ shifted start (read_at (drop start bytes) place seen)
  unfolding read_at
  dropped_bytes place seen =
      rw (same_left, byte_of_drop place)
      (choice_under shift (eqb left 0) refl (read_of_drop (tag_at (drop start bytes) place)))
    where
      shift : Reading → Reading
      shift = shifted start

      left : ℕ
      left = bytes_left (drop start bytes) place

      size : ℕ
      size = word_at (drop start bytes) (place + 1)

      field : Tag → Field
      field tag = field_at (drop start bytes) tag (place + 3) size

      same_left : bytes_left bytes (start + place) ≡ left
      same_left = omega (arith, length-drop start bytes)

      further : (more : ℕ) → start + place + more ≡ start + (place + more)
      further = add_assoc start place

      read_of_drop : (tag : Option Tag)
          → read_by tag bytes (start + place) seen
          ≡ shift (read_by tag (drop start bytes) place seen)
      read_of_drop None = refl
      read_of_drop (Some tag) =
          rw (
            same_left,
            further 1,
            further 3,
            word_of_drop (place + 1),
            field_of_drop tag (place + 3) size,
            refusal_of_shifted start (field tag),
          )
          (choice_under shift (ltb left 3) refl
          (choice_under shift (not (length_fits tag size)) refl
          (choice_under shift (ltb left (3 + size)) refl
          (choice_under shift (not (is_due tag seen)) refl
          (choice_under shift (eqb (value_refusal card_blocks (field tag)) 0)
          (rw (add_assoc start (place + 3) size)) refl)))))

-- ---- the same with the bytes in front written out

module _ (front back : List ℕ) where
  pub shifted_words : (first count : ℕ)
      → words_at (front ++ back) (length front + first) count ≡ words_at back first count
  shifted_words first count =
      rw (drop-append_seam front back) at
      (dropped_words (length front) (front ++ back) first count)

  pub shifted_reading : (place : ℕ) (seen : Seen)
      → read_at (front ++ back) (length front + place) seen
      ≡ shifted (length front) (read_at back place seen)
  shifted_reading place seen =
      rw (drop-append_seam front back) at
      (dropped_bytes (length front) (front ++ back) place seen)
