-- What a reader has seen of a recording, on which it depends whether a field comes in order:
-- document 01's refusal 9. Definitions only. Assumes nothing.
use Rattle.std.specs.Prelude.{Bool, true, false, not, ◌||◌}
use Rattle.recording.specs.declared.tag.Tag.{Tag}
use Rattle.recording.specs.declared.tag.Tag.TheVariants.{
  Setup,
  Word,
  Silence,
  ReadQueue,
  HostWrite,
  MoveTable,
  SetFlags,
}
use Rattle.recording.specs.declared.seen.Seen.{Seen}
use Rattle.recording.specs.declared.field.Field.{Field}
use Rattle.recording.specs.Field.{is_setup}

-- before the first field
abbrev pub nothing_seen : Seen
nothing_seen = record { setup = false }

-- a setup has been read
abbrev pub setup_seen : Seen
setup_seen = record { setup = true }

-- whether a field of this tag comes in order: a setup first, and once
abbrev pub is_due : Tag → Seen → Bool
is_due Setup seen = not seen.setup
is_due Word seen = seen.setup
is_due Silence seen = seen.setup
is_due ReadQueue seen = seen.setup
is_due HostWrite seen = seen.setup
is_due MoveTable seen = seen.setup
is_due SetFlags seen = seen.setup

-- after a field that it takes
abbrev pub seen_after : Field → Seen → Seen
seen_after field seen = record { setup = is_setup field || seen.setup }
