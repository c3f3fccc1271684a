-- What the reader finds at a place of a controller's recording. The controller has two tags of its
-- own, 0A setup and 0B start; 02, 03 and 05 are document 01's, read as there; any other is unknown.
-- Definitions only. Assumes nothing.
use Rattle.std.specs.Prelude.{
  ℕ,
  ◌+◌,
  Bool,
  cond,
  not,
  ◌||◌,
  Option,
  Some,
  None,
  Result,
  Ok,
  Err,
  List,
  ◌==◌,
  nat_lt,
}
use Rattle.refusals.specs.declared.Refusal.{Refusal}
use Rattle.refusals.specs.Number.{number_of}
use Rattle.recording.specs.declared.seen.Seen.{Seen}
use Rattle.recording.specs.Bytes.{bytes_left, byte_at, word_at}
use Rattle.recording.specs.Reading as recording
use Rattle.recording.specs.Seen.{setup_seen}
use Rattle.desk.specs.declared.field.Field.{Field}
use Rattle.desk.specs.declared.field.Field.TheVariants.{Setup, Start, Shared}
use Rattle.desk.specs.declared.reading.Taken.{Taken as FieldTaken}

-- a whole field and where the next one begins; or nothing is left; or the number of a refusal
pub data Reading : Type 0 where
  Taken : (field : Field) (next : ℕ) → Reading
  End : Reading
  Refused : (number : ℕ) → Reading

-- ---- the controller's own fields

abbrev pub setup_tag : ℕ
setup_tag = 0x0A

abbrev pub start_tag : ℕ
start_tag = 0x0B

-- the number that refuses a field of one length, in the reader's order, and 0 for none
unfoldable pub own_refusal : List ℕ → ℕ → ℕ → Bool → ℕ
own_refusal bytes place size due =
    cond (nat_lt (bytes_left bytes place) 3) 5  -- input ends inside the length
    (cond (not (word_at bytes (place + 1) == size)) 7  -- length not the tag's
    (cond (nat_lt (bytes_left bytes place) (3 + size)) 5  -- input ends inside the value
    (cond (not due) 9  -- setup again, or not first
    0)))

unfoldable pub own_at : List ℕ → ℕ → ℕ → Bool → Field → Reading
own_at bytes place size due field =
    cond (own_refusal bytes place size due == 0)
    (Taken field (place + 3 + size))
    (Refused (own_refusal bytes place size due))

-- ---- those that document 01 has too

abbrev pub is_shared : ℕ → Bool
is_shared tag = tag == 2 || tag == 3 || tag == 5

abbrev pub shared_as : recording.Reading → Reading
shared_as (recording.Taken field next) = Taken (Shared field) next
shared_as recording.End = End
shared_as (recording.Refused number place) = Refused number

-- ---- the reader

unfoldable pub read_at : List ℕ → ℕ → Seen → Reading
read_at bytes place seen =
    let tag : ℕ = byte_at bytes place in
    cond (bytes_left bytes place == 0) End
    (cond (tag == setup_tag)
    (own_at bytes place 4 (not seen.setup)
    (Setup (word_at bytes (place + 3)) (word_at bytes (place + 5))))
    (cond (tag == start_tag) (own_at bytes place 0 seen.setup Start)
    (cond (is_shared tag) (shared_as (recording.read_at bytes place seen))
    (Refused 6))))  -- unknown tag

-- what the code answers, as a reading
abbrev pub reading : Result (Option FieldTaken) Refusal → Reading
reading (Ok (Some taken)) = Taken taken.field taken.next
reading (Ok None) = End
reading (Err refusal) = Refused (number_of refusal)

-- what has been seen after a field that is taken
abbrev pub seen_after : Field → Seen → Seen
seen_after (Setup control count) seen = setup_seen
seen_after Start seen = seen
seen_after (Shared field) seen = seen
