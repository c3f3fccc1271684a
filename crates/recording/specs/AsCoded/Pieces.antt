-- Reading a recording piece by piece. Definitions only. Assumes nothing.
use Rattle.std.specs.Prelude.{Bool, true, false, not, ℕ, ◌+◌, eqb}
use Rattle.recording.specs.declared.field.Field.{Field}
use Rattle.recording.specs.declared.field.Field.TheVariants.{
  Setup,
  Word,
  Silence,
  ReadQueue,
  HostWrite,
  MoveTable,
  SetFlags,
}
use Rattle.recording.specs.Reading.{Reading, Taken, End, Refused}

-- whether a reading stands, whatever bytes come behind: all do but the end and refusal 5
abbrev pub is_settled : Reading → Bool
is_settled (Taken field next) = true
is_settled End = false
is_settled (Refused number place) = not (eqb number 5)

-- a field with the place of its words counted from `start` bytes earlier
abbrev pub shifted_field : ℕ → Field → Field
shifted_field start (Setup station table flags) = Setup station table flags
shifted_field start (Word marks value time) = Word marks value time
shifted_field start (Silence line time) = Silence line time
shifted_field start ReadQueue = ReadQueue
shifted_field start (HostWrite address first count) = HostWrite address (start + first) count
shifted_field start (MoveTable table) = MoveTable table
shifted_field start (SetFlags flags) = SetFlags flags

-- a reading with every place counted from `start` bytes earlier
abbrev pub shifted : ℕ → Reading → Reading
shifted start (Taken field next) = Taken (shifted_field start field) (start + next)
shifted start End = End
shifted start (Refused number place) = Refused number (start + place)
