-- Data words of a reply: one that is wanted is stored (`word_is_stored`), and a row of them, stored
-- at once, is as many words heard one after the other (`row_is_words`). Assumes nothing.
use mathlib.Core.Path.{◌≡◌, ap, ◌∙◌}
use mathlib.Core.Bool.{Bool}
use mathlib.Core.List.{List, [], ◌∷◌}
use Prim.Native.Nat.{ℕ, suc, ◌+◌, ◌≤◌, ◌<◌}
use native.Mathlib.Nat.{add-zero}
use native.Mathlib.Omega.{arith}
use lib.ListN.{length}
use borrow.Author.Tests.{lt-leb}
use Rattle.std.proofs.Common.{None}
use Rattle.rules.proofs.Cases.{beq_same}
use Rattle.bus.specs.declared.word.Word.{Word}
use Rattle.bus.specs.DataWords.{DataWord, DataWords, no_words, a_word, values_of}
use Rattle.card.specs.declared.place.Block.{Block}
use Rattle.card.specs.Memory.{the_cell, with_cell, with_cells}
use Rattle.formats.specs.Row.{reply_cell}
use Rattle.exchange.specs.declared.order.Order.{Order}
use Rattle.exchange.specs.declared.state.Stage.TheVariants.{Reply}
use Rattle.exchange.specs.Order.{format_for}
use Rattle.exchange.specs.Judge.{exchange_of, data_heard, word_heard, on_word}
use Rattle.controller.specs.declared.state.Controller.{Controller}
use Rattle.controller.specs.Control.{block_in, line_in}
use Rattle.controller.specs.State.{Desk, desk, open_back, with_message}
use Rattle.controller.specs.Heard.{Heard, heard_as, word_step, words_step}

module _ (state : Controller) (order : Order) (mark : Bool) where
  -- in the reply to an order, with so many data words in
  abbrev pub reply_at : ℕ → List ℕ → Desk
  reply_at taken ram =
      desk (with_message (open_back order (exchange_of Reply taken mark)) state) ram

  abbrev line : Bool
  line = line_in state.control

  abbrev block : Block
  block = block_in state.control

  -- a data word that is wanted is stored
  pub word_is_stored : (heard : Word) (taken : ℕ) (ram : List ℕ) → DataWord line heard
      → taken < (format_for order).reply
      → word_step heard (reply_at taken ram)
      ≡ heard_as None (reply_at (taken + 1)
      (with_cell ram block (the_cell (reply_cell (format_for order) + taken)) heard.value))
  unfolding word_step on_word word_heard data_heard with_message
  word_is_stored heard taken ram is more =
      rw (
        is.same_line,
        beq_same line,
        is.sound,
        is.joined,
        is.of_data,
        lt-leb (format_for order).reply taken more,
      )

  -- a row of data words, as many as are wanted at the most
  pub row_is_words : (row : List Word) (taken : ℕ) (ram : List ℕ) → DataWords line row
      → taken + length row ≤ (format_for order).reply
      → words_step row (reply_at taken ram)
      ≡ reply_at (taken + length row)
      (with_cells ram block (reply_cell (format_for order) + taken) (values_of row))
  unfolding words_step with_cells
  row_is_words [] taken ram no_words few = rw add-zero
  row_is_words (heard ∷ row) taken ram (a_word first rest) few =
      let next : taken + 1 + length row ≡ taken + suc (length row) = omega arith in
      let from : ℕ = reply_cell (format_for order) + taken in
      let cell : reply_cell (format_for order) + (taken + 1) ≡ from + 1 = omega arith in
      let stored : List ℕ = with_cell ram block (the_cell from) heard.value in
      ap (λ (any : Desk). words_step row any)
      (ap (λ (left : Heard). left.desk)
      (word_is_stored heard taken ram first (omega (arith, few))))
      ∙ row_is_words row (taken + 1) stored rest (omega (arith, few))
      ∙ rw (next, cell)
