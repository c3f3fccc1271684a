-- The terminal's state: a setter for each field, and setup. Definitions only. Assumes nothing.
use Rattle.std.specs.Prelude.{Bool, false, List, ℕ, ◌*◌, ◌%◌, None, Option}
use Rattle.card.specs.declared.place.Block.{Block}
use Rattle.queue.specs.declared.Queue.{Queue}
use Rattle.terminal.specs.declared.state.Shut.{Shut}
use Rattle.terminal.specs.declared.state.Core.{Core}
use Rattle.message.specs.declared.state.OpenMessage.{OpenMessage}

-- everything that an event may change: the terminal, by core and queue, and card memory
pub record Card : Type 0 where
  pub core : Core
  pub queue : Queue
  pub ram : List ℕ

abbrev pub card : Core → Queue → List ℕ → Card
card core queue' ram = record { core = core; queue = queue'; ram = ram }

-- ---- the card with one part set anew

abbrev pub with_core : Core → Card → Card
with_core core old = card core old.queue old.ram

abbrev pub with_queue : Queue → Card → Card
with_queue queue' old = card old.core queue' old.ram

abbrev pub with_ram : List ℕ → Card → Card
with_ram ram old = card old.core old.queue ram

-- ---- the core with one field set anew

unfoldable pub with_table : Block → Core → Core
with_table table core =
    record {
      station = core.station;
      table = table;
      flags = core.flags;
      status = core.status;
      last = core.last;
      shut = core.shut;
      inhibit = core.inhibit;
      message = core.message;
    }

unfoldable pub with_flags : ℕ → Core → Core
with_flags flags core =
    record {
      station = core.station;
      table = core.table;
      flags = flags;
      status = core.status;
      last = core.last;
      shut = core.shut;
      inhibit = core.inhibit;
      message = core.message;
    }

unfoldable pub with_status : ℕ → Core → Core
with_status status core =
    record {
      station = core.station;
      table = core.table;
      flags = core.flags;
      status = status;
      last = core.last;
      shut = core.shut;
      inhibit = core.inhibit;
      message = core.message;
    }

unfoldable pub with_last : ℕ → Core → Core
with_last last core =
    record {
      station = core.station;
      table = core.table;
      flags = core.flags;
      status = core.status;
      last = last;
      shut = core.shut;
      inhibit = core.inhibit;
      message = core.message;
    }

unfoldable pub with_switches : Shut → Bool → Core → Core
with_switches shut inhibit core =
    record {
      station = core.station;
      table = core.table;
      flags = core.flags;
      status = core.status;
      last = core.last;
      shut = shut;
      inhibit = inhibit;
      message = core.message;
    }

unfoldable pub with_message : Option OpenMessage → Core → Core
with_message message core =
    record {
      station = core.station;
      table = core.table;
      flags = core.flags;
      status = core.status;
      last = core.last;
      shut = core.shut;
      inhibit = core.inhibit;
      message = message;
    }

-- ---- setup: remembered status = station × 2,048 (a station has five bits); all else zero, nothing
-- open

unfoldable pub core_at_setup : ℕ → Block → ℕ → Core
core_at_setup station table flags =
    record {
      station = station;
      table = table;
      flags = flags;
      status = station % 32 * 2048;
      last = 0;
      shut = record { a = false; b = false };
      inhibit = false;
      message = None;
    }
