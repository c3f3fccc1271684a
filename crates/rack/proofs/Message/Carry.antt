-- Turn after turn until the message ends, and how a message begins: with the words that its start
-- gives. Assumes nothing.
use mathlib.Core.Path.{◌≡◌, ap, ◌∙◌}
use mathlib.Core.Bool.{Bool, true, false, ◌&&◌}
use mathlib.Core.List.{List, [], ◌∷◌}
use Prim.Native.Nat.{ℕ, suc, ◌-◌}
use Rattle.std.proofs.Common.{None}
use Rattle.exchange.specs.declared.order.Order.{Order}
use Rattle.controller.specs.Control.{line_in}
use Rattle.controller.specs.State.{Desk, is_idle}
use Rattle.controller.specs.Start.{Started, with_order, starting}
use Rattle.controller.specs.Actions.{start_action}
use Rattle.rack.specs.Segment.{Segment, Spoken, Given}
use Rattle.rack.specs.Hearing.{Stamps, desk_turn}
use Rattle.rack.specs.Bus.{
  Rack,
  rack,
  turn_all,
  turn,
  replies_to,
  is_none,
  carry,
  most_turns,
  begun,
  message,
}
use Rattle.rack.proofs.Desk.Starting.{open_desk, starts_from_cells}
use Rattle.rack.proofs.Desk.Giving.{given_segment, segment_given}

-- turns are numbered down to 0
abbrev pub first_turn : ℕ
first_turn = most_turns - 1

abbrev pub second_turn : ℕ
second_turn = most_turns - 2

abbrev pub third_turn : ℕ
third_turn = most_turns - 3

-- ---- a turn of the only segment that waits

module _ (more : ℕ) (line : Bool) (clock : ℕ → Stamps) (spoken : Spoken) (old : Rack) (new : Desk)
    (replies : List Spoken)
    (is_new : desk_turn line (clock more) spoken old.desk ≡ new)
    (brings : replies_to line (clock more) spoken old.terminals ≡ replies) where
  abbrev turned : Rack
  turned = rack new (turn_all line (clock more) spoken old.terminals)

  pub carry_ends : (is_idle new.state.message && is_none replies) ≡ true
      → carry (suc more) line clock (spoken ∷ []) old ≡ turned
  unfolding carry turn
  carry_ends over = rw (is_new, brings, over)

  pub carry_goes_on : (is_idle new.state.message && is_none replies) ≡ false
      → carry (suc more) line clock (spoken ∷ []) old ≡ carry more line clock replies turned
  unfolding carry turn
  carry_goes_on waits = rw (is_new, brings, waits)

-- ---- a message begins

pub message_begins : (order : Order) (clock : ℕ → Stamps) (old : Rack)
    → start_action old.desk ≡ starting order old.desk
    → message clock old
    ≡ carry most_turns (line_in old.desk.state.control) clock
    (Given (given_segment order old.desk) ∷ [])
    (rack (open_desk order old.desk) old.terminals)
unfolding message begun with_order
message_begins order clock old starts =
    ap (λ (any : Started). begun clock any old) starts
    ∙ ap (λ (any : Segment). carry most_turns (line_in old.desk.state.control) clock
    (Given any ∷ []) (rack (open_desk order old.desk) old.terminals))
    (segment_given order old.desk (starts_from_cells order old.desk starts))

-- where nothing is given, nothing changes
pub nothing_begins : (clock : ℕ → Stamps) (old : Rack) → (start_action old.desk).given ≡ None
    → message clock old ≡ old
unfolding message begun
nothing_begins clock old none = rw none
