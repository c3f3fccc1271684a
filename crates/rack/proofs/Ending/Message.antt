-- Every message that starts ends: from its start on, within three turns or any more, and then all
-- are idle. Assumes nothing.
use mathlib.Core.Path.{◌≡◌, ap, sym, subst, ◌∙◌}
use mathlib.Core.Bool.{Bool, true}
use mathlib.Core.List.{[], ◌∷◌}
use Prim.Native.Nat.{ℕ, zero, suc, ◌-◌, ◌≤◌}
use native.Mathlib.Omega.{arith}
use Rattle.exchange.specs.declared.order.Order.{Order}
use Rattle.controller.specs.Control.{line_in}
use Rattle.controller.specs.Start.{Started, with_order, starting}
use Rattle.controller.specs.Actions.{start_action}
use Rattle.rack.specs.Segment.{Segment, Given}
use Rattle.rack.specs.Hearing.{Stamps}
use Rattle.rack.specs.Bus.{Rack, rack, most_turns, said_at_start}
use Rattle.rack.specs.Terminals.{Each, Different}
use Rattle.rack.specs.Asked.{IsIdle}
use Rattle.rack.specs.Ending.{
  ends_within,
  message_ends_within,
  enough_turns,
  AllIdle,
  EveryMessageEnds,
}
use Rattle.rack.proofs.Desk.Starting.{open_desk, starts_from_cells}
use Rattle.rack.proofs.Desk.Giving.{given_segment, segment_given}
use Rattle.rack.proofs.Message.Carry.{message_begins}
use Rattle.rack.proofs.Ending.Every.{order_ends}

module _ (order : Order) (clock : ℕ → Stamps) (old : Rack)
    (starts : start_action old.desk ≡ starting order old.desk)
    (different : Different old.terminals) (idle : Each IsIdle old.terminals) where
  abbrev line : Bool
  line = line_in old.desk.state.control

  begins : (turns : ℕ)
      → message_ends_within turns clock old
      ≡ ends_within turns line clock (Given (given_segment order old.desk) ∷ [])
      (rack (open_desk order old.desk) old.terminals)
  unfolding with_order
  begins turns =
      ap (λ (any : Started). ends_within turns line clock
      (said_at_start any.given any.desk.state.message old.desk.ram)
      (rack any.desk old.terminals)) starts
      ∙ ap (λ (any : Segment). ends_within turns line clock (Given any ∷ [])
      (rack (open_desk order old.desk) old.terminals))
      (segment_given order old.desk (starts_from_cells order old.desk starts))

  soon : (turns : ℕ) → enough_turns ≤ turns → message_ends_within turns clock old ≡ true
  soon zero enough = absurd (omega arith)
  soon (suc zero) enough = absurd (omega arith)
  soon (suc (suc zero)) enough = absurd (omega arith)
  soon (suc (suc (suc more))) enough =
      begins (suc (suc (suc more))) ∙ (order_ends more order clock old different idle).ends

pub message_ends : EveryMessageEnds
message_ends order clock old starts different idle =
    record {
      soon = soon order clock old starts different idle;
      idle =
          subst AllIdle (sym (message_begins order clock old starts))
          (order_ends (most_turns - enough_turns) order clock old different idle).idle;
    }
