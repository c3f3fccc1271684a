-- The turns of the controller in a message without a fault: behind the words given a status is due
-- or the message is over; an answer is stored behind them; it ends with code 0. For every row.
-- Assumes nothing.
use Rattle.std.proofs.Common.{None}
use mathlib.Core.Path.{◌≡◌, refl, ap, ◌∙◌}
use mathlib.Core.Bool.{Bool, true, false, cond, ◌||◌}
use mathlib.Core.List.{List, [], ◌∷◌}
use Prim.Native.Nat.{ℕ}
use native.Mathlib.Omega.{arith}
use lib.ListN.{length}
use borrow.Author.Tests.{le-ltb}
use Rattle.std.proofs.Common.{Some, None}
use Rattle.rules.proofs.Cases.{beq_same}
use Rattle.bus.specs.Command.{address_of}
use Rattle.card.specs.declared.place.Block.{Block}
use Rattle.card.specs.Memory.{the_cell, with_cell, with_cells}
use Rattle.formats.specs.Row.{status_cell, last_cell}
use Rattle.exchange.specs.declared.order.Order.{Order}
use Rattle.exchange.specs.declared.state.Stage.TheVariants.{Awaiting, Reply, AwaitingLast, Ended}
use Rattle.exchange.specs.declared.state.Exchange.{Exchange}
use Rattle.exchange.specs.declared.judge.SilenceAct.TheVariants.{GoOn, End}
use Rattle.exchange.specs.Order.{format_for, awaited, awaited_last}
use Rattle.exchange.specs.Judge.{exchange_of, at_first, is_marked, silence_heard}
use Rattle.controller.specs.Control.{block_in, line_in}
use Rattle.controller.specs.State.{Desk, with_message}
use Rattle.controller.specs.Start.{with_order}
use Rattle.controller.specs.Heard.{words_step, ended, silence_done, silence_step}
use Rattle.rack.specs.Segment.{Segment, segment, Given, Said, data_words, at_desk}
use Rattle.rack.specs.Hearing.{Stamps, desk_turn}
use Rattle.rack.proofs.Desk.Starting.{open_desk}
use Rattle.rack.proofs.Desk.Words.{back_at, answer_stored, last_status_taken}

-- ---- silences

module _ (start : Desk) (order : Order) (taken : ℕ) (mark : Bool) (ram : List ℕ) where
  abbrev at : Exchange → Desk
  at exchange = back_at start order exchange ram

  -- all words are in
  full_silence : taken ≡ (format_for order).reply
      → (silence_step (line_in start.state.control) (at (exchange_of Reply taken mark))).desk
      ≡ cond (format_for order).last (at (exchange_of AwaitingLast taken mark))
      (ended 0 mark (at (exchange_of Reply taken mark))).desk
  unfolding silence_step silence_heard with_message
  full_silence full =
      rw (
        beq_same (line_in start.state.control),
        le-ltb taken (format_for order).reply (omega (arith, full)),
      )
      (by_last (format_for order).last)
    where
      by_last : (last : Bool)
          → (silence_done (cond last (GoOn (exchange_of AwaitingLast taken mark)) End)
          (record { order = order; progress = Some (exchange_of Reply taken mark) })
          (at (exchange_of Reply taken mark))).desk
          ≡ cond last (at (exchange_of AwaitingLast taken mark))
          (ended 0 mark (at (exchange_of Reply taken mark))).desk
      by_last true = refl
      by_last false = refl

  last_silence :
      (silence_step (line_in start.state.control) (at (exchange_of Ended taken mark))).desk
      ≡ (ended 0 mark (at (exchange_of Ended taken mark))).desk
  unfolding silence_step silence_heard with_message
  last_silence = rw (beq_same (line_in start.state.control))

-- ---- turns

module _ (order : Order) (old : Desk) where
  first_silence : (silence_step (line_in old.state.control) (open_desk order old)).desk
      ≡ cond (format_for order).status (back_at (open_desk order old) order at_first old.ram)
      (ended 0 false (open_desk order old)).desk
  unfolding silence_step with_order with_message
  first_silence =
      rw (beq_same (line_in old.state.control)) (by_status (format_for order).status)
    where
      by_status : (status : Bool)
          → (silence_done (cond status (GoOn at_first) End)
          (record { order = order; progress = None }) (open_desk order old)).desk
          ≡ cond status (back_at (open_desk order old) order at_first old.ram)
          (ended 0 false (open_desk order old)).desk
      by_status true = refl
      by_status false = refl

  -- of the words given: a status is due, or the message is over
  pub given_turn : (stamps : Stamps) (said : Segment)
      → desk_turn (line_in old.state.control) stamps (Given said) (open_desk order old)
      ≡ cond (format_for order).status (back_at (open_desk order old) order at_first old.ram)
      (ended 0 false (open_desk order old)).desk
  unfolding desk_turn at_desk words_step
  given_turn stamps said = first_silence

module _ (start : Desk) (order : Order) (stamps : Stamps) (speaker status : ℕ) (mark : Bool)
    (ram : List ℕ) where
  abbrev line : Bool
  line = line_in start.state.control

  abbrev block : Block
  block = block_in start.state.control

  abbrev marked : Bool
  marked = mark || is_marked status

  -- of the only answer, or of the first one of two
  pub answer_turn : (words : List ℕ)
      → address_of status ≡ awaited order → length words ≡ (format_for order).reply
      → desk_turn line stamps (Said speaker (segment status None words))
      (back_at start order (exchange_of Awaiting 0 mark) ram)
      ≡ cond (format_for order).last
      (back_at start order (exchange_of AwaitingLast (length words) marked)
      (with_cells ram block (status_cell (format_for order)) (status ∷ words)))
      (ended 0 marked (back_at start order (exchange_of Reply (length words) marked)
      (with_cells ram block (status_cell (format_for order)) (status ∷ words)))).desk
  unfolding desk_turn at_desk
  answer_turn words is all =
      ap (λ (any : Desk). (silence_step line any).desk)
      (answer_stored start order status words stamps.word mark ram is all)
      ∙ full_silence start order (length words) marked
      (with_cells ram block (status_cell (format_for order)) (status ∷ words)) all

  -- of the second answer of two
  pub last_turn : (taken : ℕ) → address_of status ≡ awaited_last order
      → desk_turn line stamps (Said speaker (segment status None []))
      (back_at start order (exchange_of AwaitingLast taken mark) ram)
      ≡ (ended 0 marked (back_at start order (exchange_of Ended taken marked)
      (with_cell ram block (the_cell (last_cell (format_for order))) status))).desk
  unfolding desk_turn at_desk words_step data_words
  last_turn taken is =
      ap (λ (any : Desk). (silence_step line any).desk)
      (last_status_taken start order status (stamps.word 0) taken mark ram is)
      ∙ last_silence start order taken marked
      (with_cell ram block (the_cell (last_cell (format_for order))) status)
