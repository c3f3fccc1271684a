-- The fields of a recording: the column "Value" of document 01's table of tags. Definitions only.
-- Assumes nothing.
use Rattle.std.specs.Prelude.{
  ◌≡◌,
  Bool,
  true,
  false,
  cond,
  not,
  List,
  ℕ,
  ◌+◌,
  ◌-◌,
  ◌/◌,
  ◌≤◌,
  length,
}
use Rattle.bus.specs.Limits.{is_station, are_flags, are_marks, is_line}
use Rattle.card.specs.Memory.{the_block, is_block}
use Rattle.card.specs.Host.{is_write}
use Rattle.recording.specs.declared.tag.Tag.{Tag}
use Rattle.recording.specs.declared.tag.Tag.TheVariants as tags
use Rattle.recording.specs.declared.field.Field.{Field}
use Rattle.recording.specs.declared.field.Field.TheVariants.{
  Setup,
  Word,
  Silence,
  ReadQueue,
  HostWrite,
  MoveTable,
  SetFlags,
}
use Rattle.recording.specs.Bytes.{byte_at, word_at, time_at}
use Rattle.recording.specs.Tag.{length_fits}

-- what a field holds whose value stands in the bytes from `value` on
abbrev pub setup_field : List ℕ → ℕ → Field
setup_field bytes value =
    Setup (byte_at bytes value) (byte_at bytes (value + 1)) (byte_at bytes (value + 2))

abbrev pub word_field : List ℕ → ℕ → Field
word_field bytes value =
    Word (byte_at bytes value) (word_at bytes (value + 1)) (time_at bytes (value + 3))

abbrev pub silence_field : List ℕ → ℕ → Field
silence_field bytes value = Silence (byte_at bytes value) (time_at bytes (value + 1))

-- the words stand behind the address, and fill the rest of the value
abbrev pub write_field : List ℕ → ℕ → ℕ → Field
write_field bytes value size = HostWrite (word_at bytes value) (value + 2) ((size - 2) / 2)

unfoldable pub field_at : List ℕ → Tag → ℕ → ℕ → Field
field_at bytes tags.Setup value size = setup_field bytes value
field_at bytes tags.Word value size = word_field bytes value
field_at bytes tags.Silence value size = silence_field bytes value
field_at bytes tags.ReadQueue value size = ReadQueue
field_at bytes tags.HostWrite value size = write_field bytes value size
field_at bytes tags.MoveTable value size = MoveTable (byte_at bytes value)
field_at bytes tags.SetFlags value size = SetFlags (byte_at bytes value)

-- the value has a length of the tag's, and stands whole in the bytes
pub record ValueThere (bytes : List ℕ) (tag : Tag) (value size : ℕ) : Type 0 where
  pub fits : length_fits tag size ≡ true
  pub inside : value + size ≤ length bytes

-- the number by which a field is refused for what it holds, on a card of so many blocks, and 0
-- where it is in order: 2, a station above 30; then 3, a table block that the card has not; then 8,
-- spare bits set, a line above 1, cells past the card's last
abbrev pub value_refusal : ℕ → Field → ℕ
value_refusal blocks (Setup station table flags) =
    cond (not (is_station station)) 2
    (cond (not (is_block blocks (the_block table))) 3
    (cond (not (are_flags flags)) 8 0))
value_refusal blocks (Word marks value time) = cond (not (are_marks marks)) 8 0
value_refusal blocks (Silence line time) = cond (not (is_line line)) 8 0
value_refusal blocks ReadQueue = 0
value_refusal blocks (HostWrite address first count) =
    cond (not (is_write blocks address count)) 8 0
value_refusal blocks (MoveTable table) = cond (not (is_block blocks (the_block table))) 3 0
value_refusal blocks (SetFlags flags) = cond (not (are_flags flags)) 8 0

-- a field of a setup
abbrev pub is_setup : Field → Bool
is_setup (Setup station table flags) = true
is_setup (Word marks value time) = false
is_setup (Silence line time) = false
is_setup ReadQueue = false
is_setup (HostWrite address first count) = false
is_setup (MoveTable table) = false
is_setup (SetFlags flags) = false
