-- The turns of a message of one command without X: one terminal replies, the controller holds the
-- reply behind the words given, and the terminals hear it without effect. Assumes nothing.
use Rattle.std.proofs.Common.{None}
use mathlib.Core.Path.{◌≡◌, refl, ap, sym, ◌∙◌}
use mathlib.Core.Bool.{Bool, false}
use mathlib.Core.List.{List, [], ◌∷◌}
use Prim.Native.Nat.{ℕ}
use lib.ListN.{length}
use Rattle.bus.specs.Command.{address_of, is_broadcast}
use Rattle.terminal.specs.State.{Card}
use Rattle.terminal.specs.Event.{Outcome, quietly}
use Rattle.exchange.specs.declared.order.Order.{Order}
use Rattle.exchange.specs.Order.{format_for}
use Rattle.exchange.specs.Judge.{at_first}
use Rattle.controller.specs.Control.{line_in}
use Rattle.controller.specs.State.{Desk, with_message}
use Rattle.controller.specs.Start.{with_order}
use Rattle.controller.specs.Heard.{ended}
use Rattle.rack.specs.Segment.{segment, Spoken, Said}
use Rattle.rack.specs.Hearing.{Stamps, turn_of, said_after, desk_turn}
use Rattle.rack.specs.Bus.{Rack, rack, turn_all, replies_to, message}
use Rattle.rack.specs.Terminals.{Each}
use Rattle.rack.proofs.Terminal.Quiet.{quiet_says_nothing, quiet_at_reply}
use Rattle.rack.proofs.Desk.Starting.{open_desk}
use Rattle.rack.proofs.Desk.Giving.{data_given}
use Rattle.rack.proofs.Desk.Words.{back_at}
use Rattle.rack.proofs.Desk.Turns.{given_turn, answer_turn}
use Rattle.rack.proofs.Lists.Each.{each_so, each_after, all_quiet}
use Rattle.rack.proofs.Lists.Speaker.{none_replies, find_speaker}
use Rattle.rack.proofs.Message.Carry.{first_turn, second_turn, carry_ends, carry_goes_on}
use Rattle.rack.proofs.Message.Answered.{answered_desk, Answered, answer_of}
use Rattle.rack.proofs.Message.Alone.Turned.{turned_idle, turned_took, turned_elsewhere}
use Rattle.rack.proofs.Message.Alone.Given.{said_first, FirstTurn}
use Rattle.rack.proofs.Message.Alone.Same.{behind_first}

-- the reply, and what the message leaves
pub record Replied (order : Order) (clock : ℕ → Stamps) (old : Rack) : Type 0 where
  pub to_one : is_broadcast order.first ≡ false
  pub got : Answered (line_in old.desk.state.control) (clock first_turn) (said_first order old)
      order.first old.terminals
  pub full : length got.reply ≡ (format_for order).reply
  pub ends : message clock old
      ≡ rack (answered_desk order old.desk got.status got.reply)
      (turn_all (line_in old.desk.state.control) (clock first_turn) (said_first order old)
      old.terminals)

module _ (order : Order) (clock : ℕ → Stamps) (old : Rack) (first : FirstTurn order clock old)
    (no_x : order.broadcast ≡ false) where
  abbrev line : Bool
  line = line_in old.desk.state.control

  abbrev command : ℕ
  command = order.first

  abbrev words : List ℕ
  words = data_given order old.desk

  to_one : is_broadcast command ≡ false
  to_one = first.broadcast ∙ no_x

  -- ---- the first turn: one terminal replies

  got : Answered line (clock first_turn) (said_first order old) command old.terminals
  got =
      answer_of line (clock first_turn) (said_first order old) command words to_one
      (find_speaker line (clock first_turn) (said_first order old) (address_of command)
      (each_so (λ terminal both. (
        both.0,
        turned_took line (clock first_turn) command words to_one terminal both.1,
      ))
      first.terminals)
      (each_so (λ terminal both.
      turned_elsewhere line (clock first_turn) command words to_one terminal both.1)
      first.terminals)
      first.different (first.addressed to_one))

  abbrev answer : Spoken
  answer = Said (address_of command) (segment got.status None got.reply)

  abbrev waiting : Desk
  waiting = back_at (open_desk order old.desk) order at_first old.desk.ram

  is_waiting : desk_turn line (clock first_turn) (said_first order old) (open_desk order old.desk)
      ≡ waiting
  is_waiting =
      given_turn order old.desk (clock first_turn) (segment command None words)
      ∙ rw (first.columns.status, no_x)

  -- ---- the second turn: the controller takes the reply

  abbrev over : Desk
  over = answered_desk order old.desk got.status got.reply

  reply_full : length got.reply ≡ (format_for order).reply
  reply_full = got.long ∙ sym first.columns.reply

  is_over : desk_turn line (clock second_turn) answer waiting ≡ over
  unfolding with_order
  is_over =
      answer_turn (open_desk order old.desk) order (clock second_turn) (address_of command)
      got.status false old.desk.ram got.reply
      (got.home ∙ ap (λ (any : ℕ). address_of any) (sym first.alone.asks)) reply_full
      ∙ rw first.alone.last

  -- ---- the terminals hear it without effect

  abbrev then : List Card
  then = turn_all line (clock first_turn) (said_first order old) old.terminals

  each_quiet : Each (λ terminal.
      turn_of line (clock second_turn) answer terminal ≡ quietly terminal) then
  each_quiet =
      each_after line (clock first_turn) (said_first order old)
      (each_so (λ terminal both.
      quiet_at_reply line (clock second_turn) (behind_first order clock old terminal).card
      (turned_idle line (clock first_turn) command words terminal both.0 both.1).rest.idle
      (address_of command) got.status got.reply got.home got.low)
      first.terminals)

  no_reply : replies_to line (clock second_turn) answer then ≡ []
  no_reply =
      none_replies line (clock second_turn) answer
      (each_so (λ terminal quiet.
      ap (λ (any : Outcome). said_after any) quiet ∙ quiet_says_nothing terminal) each_quiet)

  message_ends : message clock old ≡ rack over then
  unfolding ended with_message
  message_ends =
      first.begins
      ∙ carry_goes_on first_turn line clock (said_first order old)
      (rack (open_desk order old.desk) old.terminals) waiting (answer ∷ []) is_waiting
      got.heard refl
      ∙ carry_ends second_turn line clock answer (rack waiting then) over [] is_over no_reply refl
      ∙ ap (λ (any : List Card). rack over any)
      (all_quiet line (clock second_turn) answer each_quiet)

  pub replied : Replied order clock old
  replied = record { to_one = to_one; got = got; full = reply_full; ends = message_ends }
