-- To unfold `machine` is to unfold every definition that a run of the terminal computes: whoever
-- unfolds a definition unfolds what its own line names. Assumes nothing.
use Prim.Native.Nat.{ℕ}
use Rattle.bus.specs.Mode.{mode_table, mode_of}
use Rattle.bus.specs.Kind.{kind_of}
use Rattle.bus.specs.Status.{status_word, caught_status, without_error, with_error}
use Rattle.card.specs.Memory.{cell_at, with_cell, with_service, with_link}
use Rattle.card.specs.StateWord.{state_word}
use Rattle.card.specs.Part.{part_refusal, shown_part}
use Rattle.queue.specs.Queue.{with_joined, oldest_word, without_oldest, fit_queue}
use Rattle.message.specs.Message.{further, moved_message}
use Rattle.message.specs.Asked.{asked_by}
use Rattle.message.specs.Words.{own_command}
use Rattle.message.specs.Words.{in_data, in_second_command, in_awaiting_status, on_word}
use Rattle.message.specs.Silence.{on_silence}
use Rattle.message.specs.Fitness.{fit_open}
use Rattle.terminal.specs.State.{
  with_table,
  with_flags,
  with_status,
  with_last,
  with_switches,
  with_message,
  core_at_setup,
}
use Rattle.terminal.specs.Opening.{opened_message, opened_status, opened_core, opening}
use Rattle.terminal.specs.Closing.{
  state_of,
  closed_ram,
  closed_queue,
  closing,
  faulted,
  replies,
  reply_of,
  switched_shut,
  switched_inhibit,
  end_words,
  ended,
}
use Rattle.terminal.specs.Event.{opened_by}
use Rattle.terminal.specs.WordStep.{word_done, word_step}
use Rattle.terminal.specs.SilenceStep.{silence_done, silence_step}
use Rattle.terminal.specs.Machine.{
  read_queue_step,
  host_write_step,
  move_table_step,
  set_flags_step,
  step,
  run,
}
use Rattle.terminal.specs.Fitness.{fit_core}
use Rattle.actions.specs.Actions.{
  with_memory,
  without_memory,
  word_action,
  silence_action,
  host_write_action,
  read_queue_action,
  move_table_action,
  terminal_at_setup,
  set_flags_action,
  setup_action,
}

-- command, status and mode codes
bus_words : ℕ
unfolding mode_table mode_of kind_of status_word caught_status without_error with_error
bus_words = 0

memory : ℕ
unfolding cell_at with_cell with_service with_link state_word part_refusal shown_part
memory = 0

queues : ℕ
unfolding with_joined oldest_word without_oldest fit_queue
queues = 0

setters : ℕ
unfolding with_table with_flags with_status with_last with_switches with_message further
    moved_message
setters = 0

setups : ℕ
unfolding core_at_setup terminal_at_setup setup_action with_memory without_memory
setups = 0

openings : ℕ
unfolding asked_by own_command opened_message opened_status opened_core opening opened_by
openings = 0

rules : ℕ
unfolding in_data in_second_command in_awaiting_status on_word on_silence
rules = 0

closings : ℕ
unfolding state_of closed_ram closed_queue closing faulted
closings = 0

sound_ends : ℕ
unfolding replies reply_of switched_shut switched_inhibit end_words ended
sound_ends = 0

steps : ℕ
unfolding word_done word_step silence_done silence_step
steps = 0

host_steps : ℕ
unfolding read_queue_step host_write_step move_table_step set_flags_step step run
host_steps = 0

fitness : ℕ
unfolding fit_open fit_core
fitness = 0

actions : ℕ
unfolding word_action silence_action host_write_action read_queue_action move_table_action
    set_flags_action
actions = 0

-- what is held
held : ℕ
unfolding bus_words memory queues setters setups
held = 0

-- what is done
done : ℕ
unfolding openings rules closings sound_ends steps host_steps fitness actions
done = 0

unfoldable pub machine : ℕ
unfolding held done
machine = 0
