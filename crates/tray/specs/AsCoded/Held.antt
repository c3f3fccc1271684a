-- What the code holds of a run, as the definitions have it. Definitions only. Assumes nothing.
use Rattle.std.specs.Prelude.{◌≡◌, ℕ, ◌*◌, ◌≤◌, List}
use Rattle.bus.specs.Limits.{all_stations}
use Rattle.card.specs.Memory.{the_block}
use Rattle.queue.specs.Queue.{empty_queue}
use Rattle.terminal.specs.State.{card, core_at_setup}
use Rattle.recording.specs.declared.field.Field.{Field}
use Rattle.recording.specs.declared.field.Field.TheVariants.{HostWrite}
use Rattle.recording.specs.Bytes.{bytes_left}
use Rattle.recording.specs.Seen.{nothing_seen}
use Rattle.tray.specs.declared.run.Tray.{Tray as HeldTray}
use Rattle.tray.specs.Run.{Tray}

-- the RAM is lent
abbrev pub tray_of : HeldTray → List ℕ → Tray
tray_of run ram =
    record {
      seen = run.seen;
      card = card run.core run.queue ram;
      fields = run.fields;
      offset = run.offset;
    }

-- before the first field, over any memory: the core is of no station
unfoldable pub held_at_start : HeldTray
held_at_start =
    record {
      core = core_at_setup all_stations (the_block 0) 0;
      queue = empty_queue;
      seen = nothing_seen;
      fields = 0;
      offset = 0;
    }

-- ---- what a field brings that was read

-- so many words stand whole in the window from a first place on, and are 64 at the most
pub record WordsIn (window : List ℕ) (first count : ℕ) : Type 0 where
  pub few : count ≤ 64
  pub there : 2 * count ≤ bytes_left window first

-- where the field is a host write, its words do
pub record WordsThere (window : List ℕ) (field : Field) : Type 0 where
  pub words : (address first count : ℕ) → field ≡ HostWrite address first count
      → WordsIn window first count

-- the field was read at a place, and the next begins further on
pub record WasRead (window : List ℕ) (field : Field) (at next : ℕ) : Type 0 where
  pub words : WordsThere window field
  pub further : at ≤ next
