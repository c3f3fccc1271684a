-- Start: rule 2 of K10. Definitions only. Assumes nothing.
use Rattle.std.specs.Prelude.{Bool, false, cond, ◌&&◌, ℕ, ◌-◌, leb, Option, Some, None}
use Rattle.card.specs.Memory.{the_cell, cell_at}
use Rattle.formats.specs.declared.row.Row.{Row}
use Rattle.formats.specs.declared.code.Coded.{Coded}
use Rattle.formats.specs.Code.{coded_by}
use Rattle.exchange.specs.declared.order.Order.{Order}
use Rattle.exchange.specs.Order.{format_for}
use Rattle.controller.specs.declared.state.Controller.{Controller}
use Rattle.controller.specs.declared.start.Given.{Given as GivenWords}
use Rattle.controller.specs.Control.{block_in, code_in}
use Rattle.controller.specs.State.{Desk, desk, is_idle}

-- what a start leaves: the number of its refusal, 0 for none; what it gives; the desk
pub record Started : Type 0 where
  pub refusal : ℕ
  pub given : Option GivenWords
  pub desk : Desk

abbrev pub started_as : ℕ → Option GivenWords → Desk → Started
started_as refusal given new = record { refusal = refusal; given = given; desk = new }

-- a message is due, none is open, and a start is left
abbrev pub may_start : Controller → Bool
may_start state = state.due && is_idle state.message && leb 1 state.count

-- the order of a row: the commands are those of cells 0 and 1 now
abbrev pub order_in : Row → Bool → Desk → Order
order_in row broadcast old =
    record {
      row = row;
      broadcast = broadcast;
      first = cell_at old.ram (block_in old.state.control) (the_cell 0);
      second = cell_at old.ram (block_in old.state.control) (the_cell 1);
    }

-- the message is open and no longer due, and one start fewer is left
unfoldable pub with_order : Order → Controller → Controller
with_order order state =
    record state {
      count = state.count - 1;
      due = false;
      result = None;
      message = Some (record { order = order; progress = None });
    }

-- its words are those from the block's cell 0 on, as many as the table says
abbrev pub starting : Order → Desk → Started
starting order old =
    started_as 0
    (Some (record { block = block_in old.state.control; count = (format_for order).given }))
    (desk (with_order order old.state) old.ram)

-- 14 for a code that the table lacks
abbrev pub starting_by : Option Coded → Desk → Started
starting_by (Some coded) old = starting (order_in coded.row coded.broadcast old) old
starting_by None old = started_as 14 None old

-- where none may start, nothing is given and nothing changes
unfoldable pub start_step : Desk → Started
start_step old =
    cond (may_start old.state)
    (starting_by (coded_by (code_in old.state.control)) old)
    (started_as 0 None old)
