-- The third turn of a transfer without X: the receiver's status ends the message, and the terminals
-- hear it without effect. Assumes nothing.
use Rattle.std.proofs.Common.{None}
use mathlib.Core.Path.{◌≡◌, refl, ap, ◌∙◌}
use mathlib.Core.Bool.{Bool, false, cond, not, ◌||◌}
use mathlib.Core.List.{List, [], ◌∷◌}
use Prim.Native.Nat.{ℕ}
use lib.ListN.{length}
use Rattle.bus.specs.Command.{address_of}
use Rattle.card.specs.Memory.{the_cell, with_cell}
use Rattle.terminal.specs.State.{Card}
use Rattle.terminal.specs.Event.{Outcome, quietly}
use Rattle.formats.specs.Row.{last_cell}
use Rattle.exchange.specs.declared.order.Order.{Order}
use Rattle.exchange.specs.declared.state.Stage.TheVariants.{Ended}
use Rattle.exchange.specs.Order.{format_for}
use Rattle.exchange.specs.Judge.{exchange_of, is_marked}
use Rattle.controller.specs.Control.{block_in, line_in}
use Rattle.controller.specs.State.{Desk, with_message}
use Rattle.controller.specs.Start.{with_order}
use Rattle.controller.specs.Heard.{ended}
use Rattle.rack.specs.Segment.{segment, Spoken, Said}
use Rattle.rack.specs.Hearing.{Stamps, turn_of, said_after, desk_turn}
use Rattle.rack.specs.Bus.{Rack, rack, turn_all, replies_to, message}
use Rattle.rack.specs.Terminals.{Each}
use Rattle.rack.proofs.Terminal.Quiet.{quiet_says_nothing, quiet_at_reply}
use Rattle.rack.proofs.Desk.Starting.{open_desk}
use Rattle.rack.proofs.Desk.Words.{back_at}
use Rattle.rack.proofs.Desk.Turns.{last_turn}
use Rattle.rack.proofs.Lists.Each.{each_so, each_after, all_quiet}
use Rattle.rack.proofs.Lists.Speaker.{none_replies}
use Rattle.rack.proofs.Message.Carry.{
  first_turn,
  second_turn,
  third_turn,
  carry_ends,
  carry_goes_on,
}
use Rattle.rack.proofs.Message.Answered.{with_answer, answered_desk}
use Rattle.rack.proofs.Message.Transfer.Done.{done_idle}
use Rattle.rack.proofs.Message.Transfer.Commands.{said_first, awaiting_desk, FirstTurn}
use Rattle.rack.proofs.Message.Transfer.Words.{awaiting_last_desk, said_second, SecondTurn}
use Rattle.rack.proofs.Message.Transfer.Same.{behind_second}
use Rattle.rack.proofs.Message.Transfer.Last.{LastReply}

-- the controller's memory with both replies, and the controller when they have ended its message
abbrev pub with_both_answers : Order → Desk → ℕ → List ℕ → ℕ → List ℕ
with_both_answers order old status reply last =
    with_cell (with_answer order old status reply) (block_in old.state.control)
    (the_cell (last_cell (format_for order))) last

abbrev pub both_answered_desk : Order → Desk → ℕ → List ℕ → ℕ → Desk
both_answered_desk order old status reply last =
    let marked : Bool = (false || is_marked status) || is_marked last in
    (ended 0 marked
    (back_at (open_desk order old) order (exchange_of Ended (length reply) marked)
    (with_both_answers order old status reply last))
    ).desk

module _ (order : Order) (clock : ℕ → Stamps) (old : Rack) (first : FirstTurn order clock old)
    (second : SecondTurn order clock old first) (third : LastReply order clock old first)
    (to_one : order.broadcast ≡ false) where
  abbrev line : Bool
  line = line_in old.desk.state.control

  abbrev status : ℕ
  status = first.got.status

  abbrev reply : List ℕ
  reply = first.got.reply

  abbrev answer : Spoken
  answer = said_second order clock old first

  abbrev last : Spoken
  last = Said (address_of order.first) (segment third.last None [])

  -- the terminals behind the commands, and behind the words
  abbrev then : List Card
  then = turn_all line (clock first_turn) (said_first order) old.terminals

  abbrev at_last : List Card
  at_last = turn_all line (clock second_turn) answer then

  -- ---- the controller

  is_awaiting : desk_turn line (clock second_turn) answer (awaiting_desk order old.desk)
      ≡ awaiting_last_desk order old.desk status reply
  is_awaiting =
      second.desk
      ∙ ap (λ (any : Bool). cond (not any) (awaiting_last_desk order old.desk status reply)
      (answered_desk order old.desk status reply)) to_one

  abbrev over : Desk
  over = both_answered_desk order old.desk status reply third.last

  is_over : desk_turn line (clock third_turn) last (awaiting_last_desk order old.desk status reply)
      ≡ over
  unfolding with_order
  is_over =
      last_turn (open_desk order old.desk) order (clock third_turn) (address_of order.first)
      third.last (false || is_marked status) (with_answer order old.desk status reply)
      (length reply) third.home

  -- ---- the terminals hear it without effect

  each_quiet : Each (λ terminal. turn_of line (clock third_turn) last terminal ≡ quietly terminal)
      at_last
  each_quiet =
      each_after line (clock second_turn) answer
      (each_after line (clock first_turn) (said_first order)
      (each_so (λ terminal both.
      quiet_at_reply line (clock third_turn) (behind_second order clock old first terminal).card
      (done_idle line (clock first_turn) (clock second_turn) order.first order.second status
      reply terminal both.0 both.1).rest.idle
      (address_of order.first) third.last [] third.home third.low)
      second.terminals))

  no_reply : replies_to line (clock third_turn) last at_last ≡ []
  no_reply =
      none_replies line (clock third_turn) last
      (each_so (λ terminal quiet.
      ap (λ (any : Outcome). said_after any) quiet ∙ quiet_says_nothing terminal) each_quiet)

  pub message_ends : message clock old ≡ rack over at_last
  unfolding ended with_message
  message_ends =
      first.goes_on
      ∙ carry_goes_on second_turn line clock answer (rack (awaiting_desk order old.desk) then)
      (awaiting_last_desk order old.desk status reply) (last ∷ []) is_awaiting third.heard refl
      ∙ carry_ends third_turn line clock last
      (rack (awaiting_last_desk order old.desk status reply) at_last) over [] is_over no_reply refl
      ∙ ap (λ (any : List Card). rack over any) (all_quiet line (clock third_turn) last each_quiet)
