-- What the reader finds at a place of a recording. Definitions only. Assumes nothing.
use Rattle.std.specs.Prelude.{
  cond,
  not,
  Option,
  Some,
  None,
  Result,
  Ok,
  Err,
  List,
  ℕ,
  ◌+◌,
  eqb,
  ltb,
}
use Rattle.refusals.specs.declared.Refusal.{Refusal}
use Rattle.refusals.specs.Number.{number_of}
use Rattle.card.specs.Memory.{card_blocks}
use Rattle.recording.specs.declared.tag.Tag.{Tag}
use Rattle.recording.specs.declared.field.Field.{Field}
use Rattle.recording.specs.declared.seen.Seen.{Seen}
use Rattle.recording.specs.declared.reading.Taken.{Taken as FieldTaken}
use Rattle.recording.specs.declared.reading.Refused.{Refused as FieldRefused}
use Rattle.recording.specs.Bytes.{bytes_left, word_at}
use Rattle.recording.specs.Tag.{tag_at, length_fits}
use Rattle.recording.specs.Field.{field_at, value_refusal}
use Rattle.recording.specs.Seen.{is_due}

-- a whole field and where the next one begins; or nothing is left; or the number of a refusal, and
-- the first byte of the field that is refused
pub data Reading : Type 0 where
  Taken : (field : Field) (next : ℕ) → Reading
  End : Reading
  Refused : (number place : ℕ) → Reading

-- what is read of a field, by its tag
abbrev pub read_by : Option Tag → List ℕ → ℕ → Seen → Reading
read_by None bytes place seen = Refused 6 place  -- unknown tag
read_by (Some tag) bytes place seen =
    let left : ℕ = bytes_left bytes place in
    let size : ℕ = word_at bytes (place + 1) in
    let field : Field = field_at bytes tag (place + 3) size in
    cond (ltb left 3) (Refused 5 place)  -- input ends inside the length
    (cond (not (length_fits tag size)) (Refused 7 place)  -- length not the tag's
    (cond (ltb left (3 + size)) (Refused 5 place)  -- input ends inside the value
    (cond (not (is_due tag seen)) (Refused 9 place)  -- setup again, or not first
    (cond (eqb (value_refusal card_blocks field) 0)
    (Taken field (place + 3 + size))
    (Refused (value_refusal card_blocks field) place)))))

-- a field is its tag, two bytes of length and its value. The tests stand in the reader's order: 6,
-- 5 (length), 7, 5 (value), 9 by what it has seen, then 2, 3, 8 by what the field holds
unfoldable pub read_at : List ℕ → ℕ → Seen → Reading
read_at bytes place seen =
    cond (eqb (bytes_left bytes place) 0) End (read_by (tag_at bytes place) bytes place seen)

-- ---- what the code answers, as a reading

abbrev pub reading : Result (Option FieldTaken) FieldRefused → Reading
reading (Ok (Some taken)) = Taken taken.field taken.next
reading (Ok None) = End
reading (Err refused) = Refused (number_of refused.refusal) refused.place

-- of a field that stands at a place
abbrev pub reading_there : ℕ → Result FieldTaken Refusal → Reading
reading_there place (Ok taken) = Taken taken.field taken.next
reading_there place (Err refusal) = Refused (number_of refusal) place
