-- The terminal put together: one step for each event, and a run. Definitions only. Assumes nothing.
use Rattle.std.specs.Prelude.{List, [], ◌∷◌, ℕ}
use Rattle.std.proofs.lemmas.List.Edits.{sets}
use Rattle.card.specs.declared.place.Block.{Block}
use Rattle.queue.specs.Queue.{oldest_word, without_oldest_block}
use Rattle.message.specs.Message.{moved_message}
use Rattle.terminal.specs.State.{
  Card,
  with_table,
  with_flags,
  with_message,
  with_core,
  with_queue,
  with_ram,
}
use Rattle.terminal.specs.Event.{
  Event,
  word,
  silence,
  read_queue,
  host_write,
  move_table,
  set_flags,
  queue_word,
  none,
  Outcome,
  quietly,
}
use Rattle.terminal.specs.WordStep.{word_step}
use Rattle.terminal.specs.SilenceStep.{silence_step}

-- the oldest leaves the queue
unfoldable pub read_queue_step : Card → Outcome
read_queue_step old =
    record {
      card = with_queue (without_oldest_block old.queue) old;
      answer = queue_word (oldest_word old.queue);
      opened = none;
    }

-- the host writes words from an address on
unfoldable pub host_write_step : ℕ → List ℕ → Card → Outcome
host_write_step address words old =
    quietly (with_ram (sets old.ram address words) old)

-- the host sets the table block, which an open message remembers
unfoldable pub move_table_step : Block → Card → Outcome
move_table_step table old =
    quietly
    (with_core (with_table table (with_message (moved_message old.core.message) old.core)) old)

-- the host writes the flags
unfoldable pub set_flags_step : ℕ → Card → Outcome
set_flags_step flags old =
    quietly (with_core (with_flags flags old.core) old)

unfoldable pub step : Event → Card → Outcome
step (word heard) old = word_step heard old
step (silence line time) old = silence_step line time old
step read_queue old = read_queue_step old
step (host_write address words) old = host_write_step address words old
step (move_table table) old = move_table_step table old
step (set_flags flags) old = set_flags_step flags old

-- one event after the other
unfoldable pub run : List Event → Card → Card
run [] old = old
run (event ∷ events) old = run events (step event old).card
