-- The second turn of a transfer: the transmitter's reply, at the controller and at each terminal.
-- Assumes nothing.
use mathlib.Core.Path.{◌≡◌, ap, sym, ◌∙◌}
use mathlib.Core.Bool.{Bool, false, cond, not, ◌||◌}
use mathlib.Core.List.{List}
use Prim.Native.Nat.{ℕ}
use lib.ListN.{length}
use Rattle.bus.specs.Command.{address_of, words_of}
use Rattle.terminal.specs.State.{Card}
use Rattle.formats.specs.declared.row.Format.{Format}
use Rattle.exchange.specs.declared.order.Order.{Order}
use Rattle.exchange.specs.declared.state.Stage.TheVariants.{AwaitingLast}
use Rattle.exchange.specs.Judge.{exchange_of, is_marked}
use Rattle.controller.specs.Control.{line_in}
use Rattle.controller.specs.State.{Desk}
use Rattle.controller.specs.Start.{with_order}
use Rattle.rack.specs.Segment.{Spoken}
use Rattle.rack.specs.Hearing.{Stamps, desk_turn}
use Rattle.rack.specs.Bus.{Rack}
use Rattle.rack.specs.Terminals.{Each}
use Rattle.rack.specs.Asked.{IsIdle}
use Rattle.rack.proofs.Desk.Starting.{open_desk}
use Rattle.rack.proofs.Desk.Words.{back_at}
use Rattle.rack.proofs.Desk.Turns.{answer_turn}
use Rattle.rack.proofs.Lists.Each.{each_so}
use Rattle.rack.proofs.Message.Carry.{first_turn, second_turn}
use Rattle.rack.proofs.Message.Answered.{with_answer, answered_desk}
use Rattle.rack.proofs.Message.Transfer.Done.{reply_to, Done, done}
use Rattle.rack.proofs.Message.Transfer.Commands.{awaiting_desk, FirstTurn}

-- the controller awaits the last status
abbrev pub awaiting_last_desk : Order → Desk → ℕ → List ℕ → Desk
awaiting_last_desk order old status reply =
    back_at (open_desk order old) order
    (exchange_of AwaitingLast (length reply) (false || is_marked status))
    (with_answer order old status reply)

module _ (order : Order) (clock : ℕ → Stamps) (old : Rack) (first : FirstTurn order clock old) where
  abbrev line : Bool
  line = line_in old.desk.state.control

  abbrev status : ℕ
  status = first.got.status

  abbrev reply : List ℕ
  reply = first.got.reply

  abbrev pub said_second : Spoken
  said_second = reply_to order.second status reply

  abbrev pub DoneSecond : Card → Type 0
  DoneSecond terminal =
      IsIdle terminal
      × Done line (clock first_turn) (clock second_turn) order.first order.second status reply
      terminal

  -- all that is known then
  pub record SecondTurn : Type 0 where
    pub full : length reply ≡ words_of order.second
    pub terminals : Each DoneSecond old.terminals
    pub desk : desk_turn line (clock second_turn) said_second (awaiting_desk order old.desk)
        ≡ cond (not order.broadcast) (awaiting_last_desk order old.desk status reply)
        (answered_desk order old.desk status reply)

  full : length reply ≡ words_of order.second
  full = first.got.long ∙ first.columns.second_sends

  is_desk : desk_turn line (clock second_turn) said_second (awaiting_desk order old.desk)
      ≡ cond (not order.broadcast) (awaiting_last_desk order old.desk status reply)
      (answered_desk order old.desk status reply)
  unfolding with_order
  is_desk =
      answer_turn (open_desk order old.desk) order (clock second_turn) (address_of order.second)
      status false old.desk.ram reply
      (first.got.home ∙ ap (λ (any : ℕ). address_of any) (sym first.two.asks))
      (full ∙ sym (ap (λ (any : Format). any.reply) first.two.format))
      ∙ ap (λ (any : Format). cond any.last (awaiting_last_desk order old.desk status reply)
      (answered_desk order old.desk status reply)) first.two.format

  pub second_turn_lem : SecondTurn
  second_turn_lem =
      record {
        full = full;
        terminals =
            each_so (λ terminal both. (
              both.0,
              done line (clock first_turn) (clock second_turn) order.first order.second status
                  reply first.got.home first.got.low
                  (full ∙ sym first.columns.first_takes) terminal both.0 both.1,
            ))
            first.terminals;
        desk = is_desk;
      }
