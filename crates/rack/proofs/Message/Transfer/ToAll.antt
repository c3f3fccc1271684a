-- A transfer with X: no receiver replies, and the message is over behind the words. Assumes
-- nothing.
use mathlib.Core.Path.{◌≡◌, refl, ap, sym, subst, ◌∙◌}
use mathlib.Core.Bool.{Bool, true, cond, not}
use mathlib.Core.List.{List, [], ◌∷◌}
use Prim.Native.Nat.{ℕ}
use Rattle.card.proofs.CellLaws.{length_with_cells}
use Rattle.terminal.specs.State.{Card}
use Rattle.exchange.specs.declared.order.Order.{Order}
use Rattle.exchange.specs.Order.{format_for}
use Rattle.controller.specs.Control.{block_in, line_in}
use Rattle.controller.specs.State.{Desk, with_message}
use Rattle.controller.specs.Heard.{ended}
use Rattle.rack.specs.Hearing.{Stamps, desk_turn}
use Rattle.rack.specs.Bus.{Rack, rack, turn_all, replies_to, message}
use Rattle.rack.specs.SameWords.{Promised}
use Rattle.rack.proofs.Lists.Each.{each_so, each_after}
use Rattle.rack.proofs.Lists.Speaker.{none_replies}
use Rattle.rack.proofs.Message.Carry.{first_turn, second_turn, carry_ends}
use Rattle.rack.proofs.Message.Answered.{with_answer, answered_desk}
use Rattle.rack.proofs.Message.Transfer.Done.{done_silent}
use Rattle.rack.proofs.Message.Transfer.Commands.{said_first, awaiting_desk, FirstTurn}
use Rattle.rack.proofs.Message.Transfer.Words.{awaiting_last_desk, said_second, SecondTurn}
use Rattle.rack.proofs.Message.Transfer.Same.{answer_carries, all_served}

module _ (order : Order) (clock : ℕ → Stamps) (old : Rack) (first : FirstTurn order clock old)
    (second : SecondTurn order clock old first) (to_all_lem : order.broadcast ≡ true) where
  abbrev line : Bool
  line = line_in old.desk.state.control

  abbrev status : ℕ
  status = first.got.status

  abbrev reply : List ℕ
  reply = first.got.reply

  abbrev then : List Card
  then = turn_all line (clock first_turn) (said_first order) old.terminals

  abbrev over : Desk
  over = answered_desk order old.desk status reply

  is_over : desk_turn line (clock second_turn) (said_second order clock old first)
      (awaiting_desk order old.desk)
      ≡ over
  is_over =
      second.desk
      ∙ ap (λ (any : Bool). cond (not any) (awaiting_last_desk order old.desk status reply) over)
      to_all_lem

  no_reply : replies_to line (clock second_turn) (said_second order clock old first) then ≡ []
  no_reply =
      none_replies line (clock second_turn) (said_second order clock old first)
      (each_after line (clock first_turn) (said_first order)
      (each_so (λ terminal both.
      done_silent line (clock first_turn) (clock second_turn) order.first order.second status
      reply (first.broadcast ∙ to_all_lem) terminal both.1)
      second.terminals))

  pub promised_to_all : Promised order old (message clock old)
  unfolding ended with_message
  promised_to_all =
      subst (λ (any : Rack). Promised order old any)
      (sym (first.goes_on
      ∙ carry_ends second_turn line clock (said_second order clock old first)
      (rack (awaiting_desk order old.desk) then) over [] is_over no_reply refl))
      (record {
        over = refl;
        code = refl;
        long =
            length_with_cells (status ∷ reply) old.desk.ram
            (block_in old.desk.state.control) (format_for order).given;
        terminals =
            all_served order clock old first second (with_answer order old.desk status reply)
            (answer_carries order clock old first second);
      })
