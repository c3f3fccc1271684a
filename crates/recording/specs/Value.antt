-- Fields with their values in them: what a recording tells, wherever in the bytes it stands.
-- Definitions only. Assumes nothing.
use Rattle.std.specs.Prelude.{List, ℕ, length}
use Rattle.recording.specs.declared.field.Field.{Field}
use Rattle.recording.specs.declared.field.Field.TheVariants.{
  Setup,
  Word,
  Silence,
  ReadQueue,
  HostWrite,
  MoveTable,
  SetFlags,
}
use Rattle.recording.specs.Bytes.{words_at}

-- a field holds numbers, and a host write its words too
pub data Valued : Type 0 where
  setup : (station table flags : ℕ) → Valued
  word : (marks value time : ℕ) → Valued
  silence : (line time : ℕ) → Valued
  read_queue : Valued
  host_write : (address : ℕ) (words : List ℕ) → Valued
  move_table : (table : ℕ) → Valued
  set_flags : (flags : ℕ) → Valued

-- a field of these bytes, with its values
unfoldable pub valued_at : List ℕ → Field → Valued
valued_at bytes (Setup station table flags) = setup station table flags
valued_at bytes (Word marks value time) = word marks value time
valued_at bytes (Silence line time) = silence line time
valued_at bytes ReadQueue = read_queue
valued_at bytes (HostWrite address first count) = host_write address (words_at bytes first count)
valued_at bytes (MoveTable table) = move_table table
valued_at bytes (SetFlags flags) = set_flags flags

-- the field as it is read at the front of bytes: the words of a host write stand behind tag, length
-- and address, which have five bytes
unfoldable pub field_of : Valued → Field
field_of (setup station table flags) = Setup station table flags
field_of (word marks value time) = Word marks value time
field_of (silence line time) = Silence line time
field_of read_queue = ReadQueue
field_of (host_write address words) = HostWrite address 5 (length words)
field_of (move_table table) = MoveTable table
field_of (set_flags flags) = SetFlags flags
