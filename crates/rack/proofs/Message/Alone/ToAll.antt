-- A message of one command with X: nothing comes back, and the message is over behind the words
-- given. Assumes nothing.
use Rattle.std.proofs.Common.{None}
use mathlib.Core.Path.{◌≡◌, refl, sym, subst, ◌∙◌}
use mathlib.Core.Bool.{Bool, true, false}
use mathlib.Core.List.{[]}
use Prim.Native.Nat.{ℕ}
use native.Mathlib.Omega.{arith}
use Rattle.terminal.specs.State.{Card}
use Rattle.exchange.specs.declared.order.Order.{Order}
use Rattle.exchange.specs.Order.{format_for}
use Rattle.controller.specs.Control.{line_in}
use Rattle.controller.specs.State.{Desk}
use Rattle.controller.specs.Start.{with_order}
use Rattle.controller.specs.Heard.{ended}
use Rattle.rack.specs.Segment.{segment}
use Rattle.rack.specs.Hearing.{Stamps, desk_turn}
use Rattle.rack.specs.Bus.{Rack, rack, turn_all, replies_to, message}
use Rattle.rack.specs.SameWords.{Promised}
use Rattle.rack.proofs.Desk.Starting.{open_desk}
use Rattle.rack.proofs.Desk.Giving.{data_given}
use Rattle.rack.proofs.Desk.Turns.{given_turn}
use Rattle.rack.proofs.Lists.Each.{each_so}
use Rattle.rack.proofs.Lists.Speaker.{none_replies}
use Rattle.rack.proofs.Message.Carry.{first_turn, carry_ends}
use Rattle.rack.proofs.Message.Alone.Columns.{Moves, nothing, behind_command, behind_status}
use Rattle.rack.proofs.Message.Alone.Turned.{turned_silent}
use Rattle.rack.proofs.Message.Alone.Given.{said_first, FirstTurn}
use Rattle.rack.proofs.Message.Alone.Same.{
  TookFirst,
  SameFirst,
  same_behind_command,
  all_served,
}

module _ (order : Order) (clock : ℕ → Stamps) (old : Rack) (first : FirstTurn order clock old)
    (to_all_lem : order.broadcast ≡ true) where
  abbrev line : Bool
  line = line_in old.desk.state.control

  abbrev over : Desk
  over = (ended 0 false (open_desk order old.desk)).desk

  is_over : desk_turn line (clock first_turn) (said_first order old) (open_desk order old.desk)
      ≡ over
  is_over =
      given_turn order old.desk (clock first_turn)
      (segment order.first None (data_given order old.desk))
      ∙ rw (first.columns.status, to_all_lem)

  no_reply : replies_to line (clock first_turn) (said_first order old) old.terminals ≡ []
  no_reply =
      none_replies line (clock first_turn) (said_first order old)
      (each_so (λ terminal both.
      turned_silent line (clock first_turn) order.first (data_given order old.desk)
      (first.broadcast ∙ to_all_lem) terminal both.1)
      first.terminals)

  message_ends : message clock old
      ≡ rack over (turn_all line (clock first_turn) (said_first order old) old.terminals)
  unfolding ended
  message_ends =
      first.begins
      ∙ carry_ends first_turn line clock (said_first order old)
      (rack (open_desk order old.desk) old.terminals) over [] is_over no_reply refl

  same : Moves order → (terminal : Card) → TookFirst order clock old terminal
      → SameFirst order clock old old.desk.ram terminal
  same (nothing none) terminal done = λ cell below. absurd (omega (arith, none))
  same (behind_command none_back at_1) terminal done =
      same_behind_command order clock old first old.desk.ram (λ cell below. refl) none_back at_1
      terminal done
  same (behind_status none_given at-2 answers) terminal done =
      let never : (format_for order).status ≡ false = first.columns.status ∙ rw to_all_lem in
      cc

  pub promised_to_all : Promised order old (message clock old)
  unfolding ended with_order
  promised_to_all =
      subst (λ (any : Rack). Promised order old any) (sym message_ends)
      (record {
        over = refl;
        code = refl;
        long = refl;
        terminals =
            all_served order clock old first old.desk.ram
            (each_so (λ terminal both own done. same first.alone.moves terminal done)
            first.terminals);
      })
