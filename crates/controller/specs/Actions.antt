-- The controller's actions with their refusals: rules 2 and 9 of K10. A refusal gives its number
-- and leaves everything as it was given; no state is unfit. Definitions only. Assumes nothing.
use Rattle.std.specs.Prelude.{Bool, cond, not, ℕ, eqb, length, Option, None}
use Rattle.bus.specs.Limits.{are_marks, is_line}
use Rattle.bus.specs.Word.{word_of}
use Rattle.controller.specs.declared.state.Came.{Came}
use Rattle.controller.specs.State.{Desk, desk_words}
use Rattle.controller.specs.Start.{Started, started_as, start_step}
use Rattle.controller.specs.Heard.{Heard, word_step, silence_step}

abbrev pub whole_desk : Desk → Bool
whole_desk old = eqb (length old.ram) desk_words

-- 1, then 14 for a code that the table lacks
unfoldable pub start_action : Desk → Started
start_action old = cond (not (whole_desk old)) (started_as 1 None old) (start_step old)

-- what a word or a silence leaves: the number of its refusal, 0 for none; the result where it ends
-- the message; the desk
pub record After : Type 0 where
  pub refusal : ℕ
  pub result : Option Came
  pub desk : Desk

abbrev pub after : ℕ → Option Came → Desk → After
after refusal result new = record { refusal = refusal; result = result; desk = new }

-- 1, then 8 where the input is not in order
abbrev pub unless_refused : Bool → Heard → Desk → After
unless_refused in_order heard old =
    cond (not (whole_desk old)) (after 1 None old)
    (cond (not in_order) (after 8 None old)
    (after 0 heard.result heard.desk))

-- the controller keeps no time
unfoldable pub word_action : ℕ → ℕ → Desk → After
word_action marks value old =
    unless_refused (are_marks marks) (word_step (word_of marks value 0) old) old

unfoldable pub silence_action : ℕ → Desk → After
silence_action line old = unless_refused (is_line line) (silence_step (eqb line 1) old) old
