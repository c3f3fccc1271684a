-- That every message ends, whatever its commands ask: soon the controller is idle and no reply
-- waits. Definitions only; proved in `proofs/Theorems`. Assumes nothing.
use Rattle.std.specs.Prelude.{
  ◌≡◌,
  Bool,
  true,
  false,
  ◌&&◌,
  ◌||◌,
  List,
  ◌++◌,
  ℕ,
  zero,
  suc,
  ◌≤◌,
  None,
}
use Rattle.exchange.specs.declared.order.Order.{Order}
use Rattle.controller.specs.Control.{line_in}
use Rattle.controller.specs.State.{is_idle}
use Rattle.controller.specs.Start.{Started, starting}
use Rattle.controller.specs.Actions.{start_action}
use Rattle.rack.specs.Segment.{Spoken}
use Rattle.rack.specs.Hearing.{Stamps}
use Rattle.rack.specs.Bus.{
  Rack,
  rack,
  turn,
  replies_to,
  next_of,
  behind_next,
  is_none,
  said_at_start,
  message,
}
use Rattle.rack.specs.Terminals.{Each, Different}
use Rattle.rack.specs.Asked.{IsIdle}

-- whether the message ends behind one of the next turns, so many at the most: the turns are those
-- of `carry`, which stops there
unfoldable pub ends_within : ℕ → Bool → (ℕ → Stamps) → List Spoken → Rack → Bool
ends_within zero line clock waiting old = false
ends_within (suc more) line clock waiting old =
    let new : Rack = turn line (clock more) (next_of waiting) old in
    let replies : List Spoken =
    behind_next waiting ++ replies_to line (clock more) (next_of waiting) old.terminals in
    (is_idle new.desk.state.message && is_none replies)
    || ends_within more line clock replies new

-- .. from its start on
abbrev pub message_ends_within : ℕ → (ℕ → Stamps) → Rack → Bool
message_ends_within turns clock old =
    let started : Started = start_action old.desk in
    ends_within turns (line_in old.desk.state.control) clock
    (said_at_start started.given started.desk.state.message old.desk.ram)
    (rack started.desk old.terminals)

-- the words given, a reply, and a last reply or a second one
abbrev pub enough_turns : ℕ
enough_turns = 3

-- all are idle
pub record AllIdle (new : Rack) : Type 0 where
  pub desk : new.desk.state.message ≡ None
  pub terminals : Each IsIdle new.terminals

-- so many turns are enough, and then all are idle
pub record Ends (clock : ℕ → Stamps) (old : Rack) : Type 0 where
  pub soon : (turns : ℕ) → enough_turns ≤ turns → message_ends_within turns clock old ≡ true
  pub idle : AllIdle (message clock old)

-- with idle terminals of different stations every message that starts ends
abbrev pub EveryMessageEnds : Type 0
EveryMessageEnds =
    (order : Order) (clock : ℕ → Stamps) (old : Rack)
    → start_action old.desk ≡ starting order old.desk
    → Different old.terminals → Each IsIdle old.terminals
    → Ends clock old
