-- The words of an answer at the controller: a status stands behind the words given, its data words
-- stand behind it, `answer_stored`, and a last status behind these. For every row. Assumes nothing.
use Rattle.std.proofs.Common.{None}
use mathlib.Core.Path.{◌≡◌, ap, ◌∙◌}
use mathlib.Core.Bool.{Bool, false, ◌||◌}
use mathlib.Core.List.{List, ◌∷◌}
use Prim.Native.Nat.{ℕ}
use native.Mathlib.Nat.{add-zero, zero-add}
use native.Mathlib.Omega.{arith}
use lib.ListN.{length}
use borrow.Author.Tests.{eq-eqb}
use Rattle.rules.proofs.Cases.{beq_same}
use Rattle.bus.specs.Command.{address_of}
use Rattle.card.specs.declared.place.Block.{Block}
use Rattle.card.specs.Memory.{the_cell, with_cell, with_cells}
use Rattle.formats.specs.Row.{status_cell, reply_cell, last_cell}
use Rattle.exchange.specs.declared.order.Order.{Order}
use Rattle.exchange.specs.declared.state.Stage.TheVariants.{Awaiting, Reply, AwaitingLast, Ended}
use Rattle.exchange.specs.declared.state.Exchange.{Exchange}
use Rattle.exchange.specs.Order.{format_for, awaited, awaited_last}
use Rattle.exchange.specs.Judge.{
  exchange_of,
  is_marked,
  status_heard,
  word_heard,
  on_word,
}
use Rattle.controller.specs.Control.{block_in, line_in}
use Rattle.controller.specs.State.{Desk, desk, open_back, with_message}
use Rattle.controller.specs.Heard.{word_step, words_step}
use Rattle.controller.proofs.RowWords.{row_is_words}
use Rattle.rack.specs.Segment.{segment, command_word, data_words, words_on}
use Rattle.rack.proofs.Segments.{values_of_data, length_of_data, all_of_data}

-- the answer to an order has come so far, over a memory
abbrev pub back_at : Desk → Order → Exchange → List ℕ → Desk
back_at start order exchange ram =
    desk (with_message (open_back order exchange) start.state) ram

module _ (start : Desk) (order : Order) where
  abbrev line : Bool
  line = line_in start.state.control

  abbrev block : Block
  block = block_in start.state.control

  abbrev at : Exchange → List ℕ → Desk
  at = back_at start order

  -- ---- one word

  module _ (value time taken : ℕ) (mark : Bool) (ram : List ℕ) where
    status_taken : address_of value ≡ awaited order
        → (word_step (command_word line false value time)
        (at (exchange_of Awaiting taken mark) ram)).desk
        ≡ at (exchange_of Reply taken (mark || is_marked value))
        (with_cell ram block (the_cell (status_cell (format_for order))) value)
    unfolding word_step on_word word_heard status_heard with_message
    status_taken is = rw (beq_same line, eq-eqb (address_of value) (awaited order) is)

    pub last_status_taken : address_of value ≡ awaited_last order
        → (word_step (command_word line false value time)
        (at (exchange_of AwaitingLast taken mark) ram)).desk
        ≡ at (exchange_of Ended taken (mark || is_marked value))
        (with_cell ram block (the_cell (last_cell (format_for order))) value)
    unfolding word_step on_word word_heard status_heard with_message
    last_status_taken is = rw (beq_same line, eq-eqb (address_of value) (awaited_last order) is)

  -- ---- one after the other

  data_words_taken : (words : List ℕ) (time : ℕ → ℕ) (place : ℕ) (mark : Bool) (ram : List ℕ)
      → length words ≡ (format_for order).reply
      → words_step (data_words line time place words) (at (exchange_of Reply 0 mark) ram)
      ≡ at (exchange_of Reply (length words) mark)
      (with_cells ram block (reply_cell (format_for order)) words)
  data_words_taken words time place mark ram all =
      let long = length_of_data line time words place in
      row_is_words start.state order mark (data_words line time place words) 0 ram
      (all_of_data line time words place) (omega (arith, long, all))
      ∙ rw (
        long,
        zero-add (length words),
        add-zero (reply_cell (format_for order)),
        values_of_data line time words place,
      )

  -- the whole answer stands behind the words given
  pub answer_stored : (status : ℕ) (words : List ℕ) (time : ℕ → ℕ) (mark : Bool) (ram : List ℕ)
      → address_of status ≡ awaited order → length words ≡ (format_for order).reply
      → words_step (words_on line time (segment status None words))
      (at (exchange_of Awaiting 0 mark) ram)
      ≡ at (exchange_of Reply (length words) (mark || is_marked status))
      (with_cells ram block (status_cell (format_for order)) (status ∷ words))
  unfolding words_step with_cells
  answer_stored status words time mark ram is all =
      let marked : Bool = mark || is_marked status in
      let stored : List ℕ =
      with_cell ram block (the_cell (status_cell (format_for order))) status in
      ap (λ (any : Desk). words_step (data_words line time 1 words) any)
      (status_taken status (time 0) 0 mark ram is)
      ∙ data_words_taken words time 1 marked stored all
