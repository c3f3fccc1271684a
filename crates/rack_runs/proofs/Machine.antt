-- To unfold `machine` is to unfold every definition that a message over the bus computes: whoever
-- unfolds a definition unfolds what its own line names. Assumes nothing.
use Prim.Native.Nat.{ℕ}
use Rattle.bus.specs.Mode.{mode_table, mode_of}
use Rattle.bus.specs.Kind.{kind_of}
use Rattle.bus.specs.Status.{status_word, caught_status, without_error, with_error}
use Rattle.card.specs.Memory.{cell_at, with_cell, with_service, with_link}
use Rattle.card.specs.StateWord.{state_word}
use Rattle.card.specs.Part.{part_refusal, shown_part}
use Rattle.queue.specs.Queue.{with_joined, fit_queue}
use Rattle.message.specs.Message.{further, moved_message}
use Rattle.message.specs.Asked.{asked_by}
use Rattle.message.specs.Words as words
use Rattle.message.specs.Silence as silences
use Rattle.message.specs.Fitness.{fit_open}
use Rattle.terminal.specs.State as states
use Rattle.terminal.specs.Opening.{opened_message, opened_status, opened_core, opening}
use Rattle.terminal.specs.Closing as closings
use Rattle.terminal.specs.Event.{opened_by}
use Rattle.terminal.specs.WordStep as word_steps
use Rattle.terminal.specs.SilenceStep as silence_steps
use Rattle.terminal.specs.Machine.{step}
use Rattle.terminal.specs.Fitness.{fit_core}
use Rattle.formats.specs.Code.{code_table, coded_by}
use Rattle.formats.specs.Row.{format_of}
use Rattle.exchange.specs.Order.{asking_in, format_for}
use Rattle.exchange.specs.Judge as judge
use Rattle.controller.specs.State as desks
use Rattle.controller.specs.Start.{with_order, start_step}
use Rattle.controller.specs.Heard as heard
use Rattle.controller.specs.Actions.{start_action}
use Rattle.rack.specs.Segment.{data_words, at_station, at_desk}
use Rattle.rack.specs.Hearing.{hears, turn_of, said_in, desk_turn}
use Rattle.rack.specs.Bus.{
  turn_all,
  turn,
  placed,
  replies_to,
  carry,
  segment_of,
  begun,
  message,
  messages,
}

-- ---- a terminal

-- what it holds
held : ℕ
unfolding mode_table mode_of kind_of status_word caught_status without_error with_error
    cell_at with_cell with_service with_link state_word part_refusal shown_part with_joined further
    moved_message states.with_status states.with_last states.with_switches states.with_message
    states.core_at_setup
held = 0

-- what a word and a silence are to it
judged : ℕ
unfolding asked_by words.own_command words.in_data words.in_second_command words.in_awaiting_status
    words.on_word silences.on_silence
judged = 0

-- what it does
done : ℕ
unfolding opened_message opened_status opened_core opening opened_by
    closings.state_of closings.closed_ram closings.closed_queue closings.closing closings.faulted
    closings.replies closings.reply_of closings.switched_shut closings.switched_inhibit
    closings.end_words closings.ended
    word_steps.word_done word_steps.word_step silence_steps.silence_done silence_steps.silence_step
    step
done = 0

fitness : ℕ
unfolding fit_open fit_core fit_queue
fitness = 0

-- ---- the controller

starts : ℕ
unfolding code_table coded_by format_of asking_in format_for desks.with_message with_order
    start_step start_action
starts = 0

answers : ℕ
unfolding judge.status_heard judge.data_heard judge.word_heard judge.on_word judge.silence_heard
    heard.ended heard.word_step heard.silence_step
answers = 0

-- ---- the bus

turns : ℕ
unfolding data_words at_station at_desk hears turn_of said_in heard.words_step desk_turn turn_all
    turn placed replies_to
turns = 0

unfoldable pub machine : ℕ
unfolding held judged done fitness starts answers turns carry segment_of begun message messages
machine = 0
