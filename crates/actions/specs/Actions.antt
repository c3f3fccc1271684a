-- The actions of the library, refusals included, in the order 1, 4, 2, 3, 8. A refusal gives its
-- number and leaves everything as it was given. Definitions only. Assumes nothing.
use Rattle.std.specs.Prelude.{Bool, cond, not, List, [], ℕ, eqb, length}
use Rattle.bus.specs.Limits.{all_stations, is_station, are_flags, are_marks, is_line}
use Rattle.bus.specs.Word.{word_of}
use Rattle.card.specs.declared.place.Block.{Block}
use Rattle.card.specs.Memory.{card_blocks, card_words, the_block, is_block}
use Rattle.card.specs.Host.{is_write}
use Rattle.queue.specs.declared.Queue.{Queue}
use Rattle.queue.specs.Queue.{empty_queue}
use Rattle.terminal.specs.declared.state.Core.{Core}
use Rattle.terminal.specs.declared.state.Answer.{Answer}
use Rattle.terminal.specs.declared.state.Reply.TheVariants.{Silent}
use Rattle.terminal.specs.State.{Card, card, core_at_setup}
use Rattle.terminal.specs.Event.{
  Event,
  word,
  silence,
  read_queue,
  host_write,
  move_table,
  set_flags,
  replied,
  queue_word,
  Outcome,
}
use Rattle.terminal.specs.Machine.{step}
use Rattle.terminal.specs.Fitness.{fit_card}
use Rattle.actions.specs.declared.Terminal.{Terminal}

-- what an action leaves: its refusal number, 0 for none, its answer, terminal and memory
pub record After : Type 0 where
  pub refusal : ℕ
  pub answer : Answer
  pub card : Card

abbrev pub after : ℕ → Answer → Card → After
after refusal answer new = record { refusal = refusal; answer = answer; card = new }

abbrev pub took : Outcome → After
took outcome = after 0 outcome.answer outcome.card

-- a terminal to which a memory is lent, and one to which none is
abbrev pub over : Terminal → List ℕ → Card
over given ram = card given.core given.queue ram

abbrev pub alone : Terminal → Card
alone given = over given []

-- ---- what is judged

abbrev pub whole_card : Card → Bool
whole_card old = eqb (length old.ram) card_words

abbrev pub fit_terminal : Terminal → Bool
fit_terminal given = fit_card (alone given)

-- 1, then 4, then the action's own number where its input is not in order
unfoldable pub with_memory : Bool → ℕ → Event → Card → After
with_memory in_order number event old =
    cond (not (whole_card old)) (after 1 (replied Silent) old)
    (cond (not (fit_card old)) (after 4 (replied Silent) old)
    (cond (not in_order) (after number (replied Silent) old)
    (took (step event old))))

-- 4, then the action's own number where its input is not in order
unfoldable pub without_memory : Bool → ℕ → Answer → Event → Card → After
without_memory in_order number refused event old =
    cond (not (fit_card old)) (after 4 refused old)
    (cond (not in_order) (after number refused old)
    (took (step event old)))

-- ---- the actions

unfoldable pub word_action : ℕ → ℕ → ℕ → Card → After
word_action marks value time = with_memory (are_marks marks) 8 (word (word_of marks value time))

unfoldable pub silence_action : ℕ → ℕ → Card → After
silence_action line time = with_memory (is_line line) 8 (silence (eqb line 1) time)

unfoldable pub host_write_action : ℕ → List ℕ → Card → After
host_write_action address words =
    with_memory (is_write card_blocks address (length words)) 8 (host_write address words)

unfoldable pub read_queue_action : Card → After
read_queue_action old =
    cond (not (fit_card old)) (after 4 (queue_word 0) old) (took (step read_queue old))

unfoldable pub move_table_action : ℕ → Card → After
move_table_action table =
    without_memory (is_block card_blocks (the_block table)) 3 (replied Silent)
    (move_table (the_block table))

unfoldable pub set_flags_action : ℕ → Card → After
set_flags_action flags = without_memory (are_flags flags) 8 (replied Silent) (set_flags flags)

-- ---- setup

abbrev pub terminal : Core → Queue → Terminal
terminal core queue = record { core = core; queue = queue }

unfoldable pub terminal_at_setup : ℕ → Block → ℕ → Terminal
terminal_at_setup station table flags = terminal (core_at_setup station table flags) empty_queue

-- no terminal: of no station, so that every action refuses it with 4
abbrev pub no_terminal : Terminal
no_terminal = terminal_at_setup all_stations (the_block 0) 0

-- what setup leaves: its refusal number, 0 for none, and a terminal
pub record Done : Type 0 where
  pub refusal : ℕ
  pub terminal : Terminal

abbrev pub done : ℕ → Terminal → Done
done refusal given = record { refusal = refusal; terminal = given }

-- 2 no station, 3 no block of the card, 8 spare bits in the flags
unfoldable pub setup_action : ℕ → ℕ → ℕ → Done
setup_action station table flags =
    cond (not (is_station station)) (done 2 no_terminal)
    (cond (not (is_block card_blocks (the_block table))) (done 3 no_terminal)
    (cond (not (are_flags flags)) (done 8 no_terminal)
    (done 0 (terminal_at_setup station (the_block table) flags))))
