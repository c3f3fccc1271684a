-- What a refused setup returns is no terminal: every action refuses it and leaves all as it was,
-- `no_terminal_is_refused`. Assumes nothing.
use mathlib.Core.Path.{◌≡◌, refl}
use mathlib.Core.Bool.{Bool, true, false, cond, not}
use mathlib.Core.List.{List}
use Prim.Native.Nat.{ℕ}
use lib.Dec.{eqb}
use lib.ListN.{length}
use Rattle.card.specs.Memory.{card_words}
use Rattle.terminal.specs.declared.state.Answer.{Answer}
use Rattle.terminal.specs.declared.state.Reply.TheVariants.{Silent}
use Rattle.terminal.specs.State.{Card}
use Rattle.terminal.specs.Event.{Event, replied, queue_word}
use Rattle.actions.specs.declared.Terminal.{Terminal}
use Rattle.actions.specs.Actions.{
  After,
  after,
  over,
  alone,
  with_memory,
  without_memory,
  word_action,
  silence_action,
  host_write_action,
  read_queue_action,
  move_table_action,
  set_flags_action,
  no_terminal,
}
use Rattle.actions.proofs.SetupLaws.{no_terminal_is_unfit}

-- 1 where the memory is not the card's, else 4, and all as it was
abbrev by_memory : Terminal → List ℕ → After
by_memory given ram =
    after (cond (eqb (length ram) card_words) 4 1) (replied Silent) (over given ram)

-- every action refuses the terminal
pub record RefusedByAll (given : Terminal) : Type 0 where
  pub word : (marks value time : ℕ) (ram : List ℕ)
      → word_action marks value time (over given ram) ≡ by_memory given ram
  pub silence : (line time : ℕ) (ram : List ℕ)
      → silence_action line time (over given ram) ≡ by_memory given ram
  pub host_write_lem : (address : ℕ) (words ram : List ℕ)
      → host_write_action address words (over given ram) ≡ by_memory given ram
  pub read_queue_lem : read_queue_action (alone given) ≡ after 4 (queue_word 0) (alone given)
  pub move_table_lem : (table : ℕ)
      → move_table_action table (alone given) ≡ after 4 (replied Silent) (alone given)
  pub set_flags_lem : (flags : ℕ)
      → set_flags_action flags (alone given) ≡ after 4 (replied Silent) (alone given)

-- memory is judged before fitness
memory_first : (whole : Bool) (old : Card)
    → cond (not whole) (after 1 (replied Silent) old) (after 4 (replied Silent) old)
    ≡ after (cond whole 4 1) (replied Silent) old
memory_first true old = refl
memory_first false old = refl

with_memory_lem : (in_order : Bool) (number : ℕ) (event : Event) (ram : List ℕ)
    → with_memory in_order number event (over no_terminal ram) ≡ by_memory no_terminal ram
unfolding with_memory
with_memory_lem in_order number event ram =
    rw no_terminal_is_unfit
    (memory_first (eqb (length ram) card_words) (over no_terminal ram))

without_memory_lem : (in_order : Bool) (number : ℕ) (refused : Answer) (event : Event)
    → without_memory in_order number refused event (alone no_terminal)
    ≡ after 4 refused (alone no_terminal)
unfolding without_memory
without_memory_lem in_order number refused event = rw no_terminal_is_unfit refl

pub no_terminal_is_refused : RefusedByAll no_terminal
unfolding word_action silence_action host_write_action read_queue_action move_table_action
    set_flags_action
no_terminal_is_refused =
    record {
      word = λ marks value time ram. with_memory_lem _ _ _ ram;
      silence = λ line time ram. with_memory_lem _ _ _ ram;
      host_write_lem = λ address words ram. with_memory_lem _ _ _ ram;
      read_queue_lem = rw no_terminal_is_unfit refl;
      move_table_lem = λ table. without_memory_lem _ _ _ _;
      set_flags_lem = λ flags. without_memory_lem _ _ _ _;
    }
