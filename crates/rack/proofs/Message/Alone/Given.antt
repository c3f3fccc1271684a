-- The first turn of a message of one command: its words are given, and each terminal that hears
-- them takes the command or is as before. Assumes nothing.
use Rattle.std.proofs.Common.{Option}
use mathlib.Core.Path.{◌≡◌, ap, subst, ◌∙◌}
use mathlib.Core.Logic.{◌≢◌}
use mathlib.Core.Bool.{Bool}
use mathlib.Core.List.{List, [], ◌∷◌}
use Prim.Native.Nat.{ℕ}
use lib.ListN.{length}
use Rattle.std.proofs.Common.{Option}
use Rattle.bus.specs.Command.{is_broadcast}
use Rattle.message.specs.Asked.{asked_of}
use Rattle.terminal.specs.State.{Card}
use Rattle.formats.specs.declared.row.Row.TheVariants.{Between}
use Rattle.exchange.specs.declared.order.Order.{Order}
use Rattle.controller.specs.Control.{line_in}
use Rattle.rack.specs.Segment.{segment, Spoken, Given}
use Rattle.rack.specs.Hearing.{Stamps}
use Rattle.rack.specs.Bus.{Rack, rack, carry, most_turns, message}
use Rattle.rack.specs.Terminals.{Each, Different}
use Rattle.rack.specs.Asked.{IsIdle, ReadyFor, Addressed, Asked}
use Rattle.rack.proofs.Terminal.Columns.{AloneColumns, alone_columns}
use Rattle.rack.proofs.Desk.Starting.{open_desk, Starts, starts_from_cells}
use Rattle.rack.proofs.Desk.Giving.{data_given, data_given_long}
use Rattle.rack.proofs.Lists.Each.{each_so, each_both}
use Rattle.rack.proofs.Message.Carry.{first_turn, message_begins}
use Rattle.rack.proofs.Message.Alone.Columns.{OneCommand, one_command}
use Rattle.rack.proofs.Message.Alone.Turned.{given_alone, Turned, turned}

-- the words given
abbrev pub said_first : Order → Rack → Spoken
said_first order old = given_alone order.first (data_given order old.desk)

-- idle, and the command taken, or as before
abbrev pub TurnedFirst : Order → (ℕ → Stamps) → Rack → Card → Type 0
TurnedFirst order clock old terminal =
    IsIdle terminal
    × Turned (line_in old.desk.state.control) (clock first_turn) order.first
    (data_given order old.desk) terminal

-- all that is known then
pub record FirstTurn (order : Order) (clock : ℕ → Stamps) (old : Rack) : Type 0 where
  pub starts : Starts order old.desk
  pub columns : AloneColumns order
  pub alone : OneCommand order
  pub broadcast : is_broadcast order.first ≡ order.broadcast
  pub addressed : Addressed order.first old.terminals
  pub different : Different old.terminals
  pub terminals : Each (TurnedFirst order clock old) old.terminals
  pub begins : message clock old
      ≡ carry most_turns (line_in old.desk.state.control) clock (said_first order old ∷ [])
      (rack (open_desk order old.desk) old.terminals)

module _ (order : Order) (clock : ℕ → Stamps) (old : Rack) (asked : Asked order old)
    (other : order.row ≢ Between) where
  abbrev line : Bool
  line = line_in old.desk.state.control

  abbrev words : List ℕ
  words = data_given order old.desk

  alone : OneCommand order
  alone = one_command order other

  columns : AloneColumns order
  columns = alone_columns order other asked.fit

  starts : Starts order old.desk
  starts = starts_from_cells order old.desk asked.starts

  full : length words ≡ (asked_of order.first).takes
  full = data_given_long order old.desk starts ∙ columns.behind

  begins : message clock old
      ≡ carry most_turns line clock (said_first order old ∷ [])
      (rack (open_desk order old.desk) old.terminals)
  begins =
      message_begins order clock old asked.starts
      ∙ ap (λ (second : Option ℕ). carry most_turns line clock
      (Given (segment order.first second words) ∷ [])
      (rack (open_desk order old.desk) old.terminals)) (alone.no_second order.second)

  each_turned : Each (TurnedFirst order clock old) old.terminals
  each_turned =
      each_so (λ terminal both. (
        both.0,
        turned line (clock first_turn) order.first words columns.fit full terminal both.0
            (subst (λ (command : Option ℕ). ReadyFor line command terminal) (alone.takes terminal)
            both.1),
      ))
      (each_both asked.idle asked.ready)

  pub first_turn_lem : FirstTurn order clock old
  first_turn_lem =
      record {
        starts = starts;
        columns = columns;
        alone = alone;
        broadcast = asked.fit.broadcast;
        addressed = alone.addressed old.terminals asked.addressed;
        different = asked.different;
        terminals = each_turned;
        begins = begins;
      }
