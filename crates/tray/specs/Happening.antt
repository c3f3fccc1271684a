-- What a field tells, and what comes of it: setup, or an event of the terminal. Definitions only.
-- Assumes nothing.
use Rattle.std.specs.Prelude.{ℕ, List, [], ◌∷◌, ◌==◌}
use Rattle.bus.specs.Word.{word_of}
use Rattle.card.specs.Memory.{the_block}
use Rattle.queue.specs.Queue.{empty_queue}
use Rattle.terminal.specs.declared.state.Reply.TheVariants.{Silent}
use Rattle.terminal.specs.State.{Card, card, core_at_setup}
use Rattle.terminal.specs.Event.{
  Event,
  word,
  silence,
  read_queue,
  host_write,
  move_table,
  set_flags,
  replied,
  Shown,
  shown,
  seen,
}
use Rattle.terminal.specs.Machine.{step}
use Rattle.recording.specs.Value.{Valued}
use Rattle.recording.specs.Value as field

pub data Happening : Type 0 where
  setup : ℕ → ℕ → ℕ → Happening
  event : Event → Happening

-- what a field tells
unfoldable pub happening_of : Valued → Happening
happening_of (field.setup station table flags) = setup station table flags
happening_of (field.word marks value time) = event (word (word_of marks value time))
happening_of (field.silence line time) = event (silence (line == 1) time)
happening_of field.read_queue = event read_queue
happening_of (field.host_write address words) = event (host_write address words)
happening_of (field.move_table table) = event (move_table (the_block table))
happening_of (field.set_flags flags) = event (set_flags flags)

-- what fields tell, one by one
unfoldable pub happenings : List Valued → List Happening
happenings [] = []
happenings (field ∷ rest) = happening_of field ∷ happenings rest

-- setup makes the terminal and leaves the RAM; an event is a step of it
unfoldable pub happened : Happening → Card → Shown
happened (setup station table flags) old =
    shown (card (core_at_setup station (the_block table) flags) empty_queue old.ram)
    (replied Silent)
happened (event told) old = seen (step told old)
