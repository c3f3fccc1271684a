-- A start that gives words: the memory is the controller's, and the order's commands are those of
-- cells 0 and 1. Assumes nothing.
use mathlib.Core.Path.{◌≡◌, refl, sym, ap}
use mathlib.Core.Bool.{Bool, true, false, cond, not}
use Prim.Native.Nat.{ℕ, ◌≤◌}
use native.Mathlib.Omega.{arith}
use lib.ListN.{length}
use borrow.Author.Tests.{eqb-true}
use Rattle.std.proofs.Common.{Option, Some, None}
use Rattle.card.specs.Memory.{block_cells, the_cell, word_address, cell_at}
use Rattle.formats.specs.declared.code.Coded.{Coded}
use Rattle.formats.specs.Code.{coded_by}
use Rattle.exchange.specs.declared.order.Order.{Order}
use Rattle.controller.specs.declared.state.OpenMessage.{OpenMessage}
use Rattle.controller.specs.Control.{block_in, code_in}
use Rattle.controller.specs.State.{Desk, desk, desk_words}
use Rattle.controller.specs.Start.{
  Started,
  started_as,
  may_start,
  order_in,
  with_order,
  starting,
  starting_by,
  start_step,
}
use Rattle.controller.specs.Actions.{whole_desk, start_action}

-- the controller, its message open
abbrev pub open_desk : Order → Desk → Desk
open_desk order old = desk (with_order order old.state) old.ram

-- what a start of an order tells
pub record Starts (order : Order) (old : Desk) : Type 0 where
  pub whole : length old.ram ≡ desk_words
  pub first : order.first ≡ cell_at old.ram (block_in old.state.control) (the_cell 0)
  pub second : order.second ≡ cell_at old.ram (block_in old.state.control) (the_cell 1)

-- the controller's block lies in its memory
pub desk_block_in_memory : {order : Order} (old : Desk) → Starts order old
    → word_address (block_in old.state.control) (the_cell block_cells) ≤ length old.ram
desk_block_in_memory old started = omega (arith, started.whole)

-- ---- by the answer of a start

-- the order that it opens
abbrev order_of : Order → Option OpenMessage → Order
order_of other None = other
order_of other (Some message) = message.order

module _ (order : Order) (old : Desk) where
  abbrev answered : Started
  answered = starting order old

  nothing_given : (refusal : ℕ) → started_as refusal None old ≡ answered → ⊥
  nothing_given refusal same = cc (ap (λ (any : Started). any.given) same)

  by_code : (coded : Option Coded) → length old.ram ≡ desk_words → starting_by coded old ≡ answered
      → Starts order old
  unfolding with_order
  by_code (Some coded) whole same =
      let is : order_in coded.row coded.broadcast old ≡ order =
      ap (λ (any : Started). order_of order any.desk.state.message) same in
      record {
        whole = whole;
        first = sym (ap (λ (any : Order). any.first) is);
        second = sym (ap (λ (any : Order). any.second) is);
      }
  by_code None whole same = absurd (nothing_given 14 same)

  by_turn : (may : Bool) → length old.ram ≡ desk_words
      → cond may (starting_by (coded_by (code_in old.state.control)) old) (started_as 0 None old)
      ≡ answered
      → Starts order old
  by_turn true whole same = by_code (coded_by (code_in old.state.control)) whole same
  by_turn false whole same = absurd (nothing_given 0 same)

  by_memory_lem : (whole : Bool) → whole_desk old ≡ whole
      → cond (not whole) (started_as 1 None old) (start_step old) ≡ answered
      → Starts order old
  unfolding start_step
  by_memory_lem true whole same =
      by_turn (may_start old.state) (eqb-true (length old.ram) desk_words whole) same
  by_memory_lem false other same = absurd (nothing_given 1 same)

  pub starts_from_cells : start_action old ≡ starting order old → Starts order old
  unfolding start_action
  starts_from_cells same = by_memory_lem (whole_desk old) refl same
