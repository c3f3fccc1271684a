-- The first turn of a transfer: the commands, what each terminal makes of them, and the reply of
-- the transmitter, which the controller awaits. Assumes nothing.
use Rattle.std.proofs.Common.{Option, Some}
use mathlib.Core.Path.{◌≡◌, refl, ap, subst, ◌∙◌}
use mathlib.Core.Bool.{Bool}
use mathlib.Core.List.{List, [], ◌∷◌}
use Prim.Native.Nat.{ℕ, suc}
use native.Mathlib.Omega.{arith}
use lib.ListN.{drop_of_length-le}
use Rattle.std.proofs.Common.{Option}
use Rattle.bus.specs.Command.{address_of, is_broadcast}
use Rattle.terminal.specs.State.{Card}
use Rattle.formats.specs.declared.row.Format.{Format}
use Rattle.formats.specs.declared.row.Row.TheVariants.{Between}
use Rattle.exchange.specs.declared.order.Order.{Order}
use Rattle.exchange.specs.Order.{format_for}
use Rattle.exchange.specs.Judge.{at_first}
use Rattle.controller.specs.Control.{line_in}
use Rattle.controller.specs.State.{Desk, with_message}
use Rattle.rack.specs.Segment.{segment, Spoken, Given}
use Rattle.rack.specs.Hearing.{Stamps, desk_turn}
use Rattle.rack.specs.Bus.{Rack, rack, turn_all, carry, most_turns, message}
use Rattle.rack.specs.Terminals.{Each, Different}
use Rattle.rack.specs.Asked.{IsIdle, ReadyFor, FitTransfer, Addressed, Asked}
use Rattle.rack.proofs.Terminal.BothEnds.{commands_of}
use Rattle.rack.proofs.Terminal.Columns.{TransferColumns, transfer_columns}
use Rattle.rack.proofs.Desk.Starting.{open_desk, Starts, starts_from_cells}
use Rattle.rack.proofs.Desk.Giving.{data_given, data_given_long}
use Rattle.rack.proofs.Desk.Words.{back_at}
use Rattle.rack.proofs.Desk.Turns.{given_turn}
use Rattle.rack.proofs.Lists.Each.{each_so, each_both}
use Rattle.rack.proofs.Lists.Speaker.{find_speaker}
use Rattle.rack.proofs.Message.Carry.{first_turn, second_turn, message_begins, carry_goes_on}
use Rattle.rack.proofs.Message.Answered.{Answered, answer_of}
use Rattle.rack.proofs.Message.Transfer.Columns.{TwoCommands, two_commands}
use Rattle.rack.proofs.Message.Transfer.Begun.{Begun, begun, begun_took, begun_elsewhere}
use Rattle.rack.proofs.Message.Transfer.Done.{reply_to}

-- the commands
abbrev pub said_first : Order → Spoken
said_first order = commands_of order.first order.second

-- idle, and behind the commands
abbrev pub BegunFirst : Order → (ℕ → Stamps) → Rack → Card → Type 0
BegunFirst order clock old terminal =
    IsIdle terminal
    × Begun (line_in old.desk.state.control) (clock first_turn) order.first order.second
    terminal

-- the controller awaits the reply
abbrev pub awaiting_desk : Order → Desk → Desk
awaiting_desk order old = back_at (open_desk order old) order at_first old.ram

-- all that is known then
pub record FirstTurn (order : Order) (clock : ℕ → Stamps) (old : Rack) : Type 0 where
  pub starts : Starts order old.desk
  pub two : TwoCommands order
  pub fit : FitTransfer order.first order.second
  pub columns : TransferColumns order.first order.second
  pub broadcast : is_broadcast order.first ≡ order.broadcast
  pub addressed : Addressed order.first old.terminals
  pub different : Different old.terminals
  pub terminals : Each (BegunFirst order clock old) old.terminals
  pub got : Answered (line_in old.desk.state.control) (clock first_turn) (said_first order)
      order.second old.terminals
  pub goes_on : message clock old
      ≡ carry (suc second_turn) (line_in old.desk.state.control) clock
      (reply_to order.second got.status got.reply ∷ [])
      (rack (awaiting_desk order old.desk)
      (turn_all (line_in old.desk.state.control) (clock first_turn) (said_first order)
      old.terminals))

module _ (order : Order) (clock : ℕ → Stamps) (old : Rack) (asked : Asked order old)
    (is_row : order.row ≡ Between) where
  abbrev line : Bool
  line = line_in old.desk.state.control

  abbrev stamps : Stamps
  stamps = clock first_turn

  two : TwoCommands order
  two = two_commands order is_row

  fit : FitTransfer order.first order.second
  fit = two.fit asked.fit

  addressed : Addressed order.first old.terminals × Addressed order.second old.terminals
  addressed = two.addressed old.terminals asked.addressed

  starts : Starts order old.desk
  starts = starts_from_cells order old.desk asked.starts

  no_data : data_given order old.desk ≡ []
  no_data =
      let none : (format_for order).behind ≡ 0 = ap (λ (any : Format). any.behind) two.format in
      drop_of_length-le (data_given order old.desk) {i = 0}
      (omega (arith, data_given_long order old.desk starts))

  begins : message clock old
      ≡ carry most_turns line clock (said_first order ∷ [])
      (rack (open_desk order old.desk) old.terminals)
  begins =
      message_begins order clock old asked.starts
      ∙ ap (λ (any : Option ℕ). carry most_turns line clock
      (Given (segment order.first any (data_given order old.desk)) ∷ [])
      (rack (open_desk order old.desk) old.terminals)) two.second
      ∙ ap (λ (any : List ℕ). carry most_turns line clock
      (Given (segment order.first (Some order.second) any) ∷ [])
      (rack (open_desk order old.desk) old.terminals)) no_data

  each_begun : Each (BegunFirst order clock old) old.terminals
  each_begun =
      each_so (λ terminal both. (
        both.0,
        begun line stamps order.first order.second fit terminal both.0
            (subst (λ (command : Option ℕ). ReadyFor line command terminal) (two.takes terminal)
            both.1),
      ))
      (each_both asked.idle asked.ready)

  got : Answered line stamps (said_first order) order.second old.terminals
  got =
      answer_of line stamps (said_first order) order.second [] fit.to_one
      (find_speaker line stamps (said_first order) (address_of order.second)
      (each_so (λ terminal both. (
        both.0,
        begun_took line stamps order.first order.second fit.to_one terminal both.1,
      ))
      each_begun)
      (each_so (λ terminal both.
      begun_elsewhere line stamps order.first order.second fit.to_one terminal both.1)
      each_begun)
      asked.different (addressed.1 fit.to_one))

  is_awaiting : desk_turn line stamps (said_first order) (open_desk order old.desk)
      ≡ awaiting_desk order old.desk
  is_awaiting =
      given_turn order old.desk stamps (segment order.first (Some order.second) [])
      ∙ rw two.format

  pub first_turn_lem : FirstTurn order clock old
  unfolding with_message
  first_turn_lem =
      record {
        starts = starts;
        two = two;
        fit = fit;
        columns = transfer_columns order.first order.second fit;
        broadcast = asked.fit.broadcast;
        addressed = addressed.0;
        different = asked.different;
        terminals = each_begun;
        got = got;
        goes_on =
            begins
            ∙ carry_goes_on first_turn line clock (said_first order)
            (rack (open_desk order old.desk) old.terminals) (awaiting_desk order old.desk)
            (reply_to order.second got.status got.reply ∷ []) is_awaiting got.heard refl;
      }
