-- The laws of `specs/Value.antt`: bytes that come behind change no values
-- (`more_bytes_same_values`), and the place of a field does not matter (`shifted_values`). Of a
-- field at the front of bytes the values tell all (`field_of_values`). Assumes nothing.
use mathlib.Core.Path.{◌≡◌, refl, ap}
use mathlib.Core.List.{List, ◌++◌}
use Prim.Native.Nat.{ℕ}
use lib.ListN.{drop}
use Rattle.recording.specs.declared.field.Field.{Field}
use Rattle.recording.specs.declared.field.Field.TheVariants.{
  Setup,
  Word,
  Silence,
  ReadQueue,
  HostWrite,
  MoveTable,
  SetFlags,
}
use Rattle.recording.specs.declared.seen.Seen.{Seen}
use Rattle.recording.specs.Seen.{seen_after}
use Rattle.recording.specs.Reading.{Taken, read_at}
use Rattle.recording.specs.Value.{host_write, valued_at, field_of}
use Rattle.recording.specs.AsCoded.Pieces.{shifted_field}
use Rattle.recording.proofs.WordsLaws.{length_words_at}
use Rattle.recording.proofs.InOrder.{taken_in_order}
use Rattle.recording.proofs.TakenWords.{more_bytes_same_words}
use Rattle.recording.proofs.Shifted.{dropped_words}

-- where bytes come behind
pub more_bytes_same_values : (front back : List ℕ) (place : ℕ) (seen : Seen) (field : Field)
    {next : ℕ} → read_at front place seen ≡ Taken field next
    → valued_at (front ++ back) field ≡ valued_at front field
unfolding valued_at
more_bytes_same_values front back place seen (Setup station table flags) is = refl
more_bytes_same_values front back place seen (Word marks value time) is = refl
more_bytes_same_values front back place seen (Silence line time) is = refl
more_bytes_same_values front back place seen ReadQueue is = refl
more_bytes_same_values front back place seen (HostWrite address first count) is =
    ap (λ (words : List ℕ). host_write address words)
    (more_bytes_same_words front place seen is back)
more_bytes_same_values front back place seen (MoveTable table) is = refl
more_bytes_same_values front back place seen (SetFlags flags) is = refl

-- where the bytes begin further on
pub shifted_values : (start : ℕ) (bytes : List ℕ) (field : Field)
    → valued_at bytes (shifted_field start field) ≡ valued_at (drop start bytes) field
unfolding valued_at
shifted_values start bytes (Setup station table flags) = refl
shifted_values start bytes (Word marks value time) = refl
shifted_values start bytes (Silence line time) = refl
shifted_values start bytes ReadQueue = refl
shifted_values start bytes (HostWrite address first count) =
    ap (λ (words : List ℕ). host_write address words) (dropped_words start bytes first count)
shifted_values start bytes (MoveTable table) = refl
shifted_values start bytes (SetFlags flags) = refl

module _ (bytes : List ℕ) (seen : Seen) where
  -- at the front of the bytes
  pub field_of_values : (field : Field) {next : ℕ} → read_at bytes 0 seen ≡ Taken field next
      → field_of (valued_at bytes field) ≡ field
  unfolding valued_at field_of
  field_of_values (Setup station table flags) is = refl
  field_of_values (Word marks value time) is = refl
  field_of_values (Silence line time) is = refl
  field_of_values ReadQueue is = refl
  field_of_values (HostWrite address first count) is =
      let behind : first ≡ 5 = (taken_in_order bytes 0 seen is).from_there in
      rw (length_words_at bytes first count, behind)
  field_of_values (MoveTable table) is = refl
  field_of_values (SetFlags flags) is = refl

  pub seen_by_values : {field : Field} {next : ℕ} → read_at bytes 0 seen ≡ Taken field next
      → seen_after (field_of (valued_at bytes field)) seen ≡ seen_after field seen
  seen_by_values {field} is =
      ap (λ (any : Field). seen_after any seen) (field_of_values field is)
