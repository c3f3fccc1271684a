-- The open message, further on, and the host's setting of the table block. Definitions only.
-- Assumes nothing.
use Rattle.std.specs.Prelude.{true, ℕ, None, Option, Some}
use Rattle.message.specs.declared.state.Stage.{Stage}
use Rattle.message.specs.declared.state.OpenMessage.{OpenMessage}

-- the same message at another stage, with its second command and the words taken
unfoldable pub further : Stage → Option ℕ → ℕ → OpenMessage → OpenMessage
further stage second taken message =
    record {
      command = message.command;
      line = message.line;
      block = message.block;
      table = message.table;
      moved = message.moved;
      busy = message.busy;
      queued = message.queued;
      opened = message.opened;
      taken = taken;
      second = second;
      stage = stage;
    }

-- the host has set the table block
unfoldable pub moved_message : Option OpenMessage → Option OpenMessage
moved_message None = None
moved_message (Some message) =
    Some (record {
      command = message.command;
      line = message.line;
      block = message.block;
      table = message.table;
      moved = true;
      busy = message.busy;
      queued = message.queued;
      opened = message.opened;
      taken = message.taken;
      second = message.second;
      stage = message.stage;
    })
