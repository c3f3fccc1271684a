-- Where a word of the answer is stored: behind the words given, and not above the highest cell.
-- Assumes nothing.
use mathlib.Core.Path.{◌≡◌}
use mathlib.Core.Bool.{Bool, true, false, true≢false, not}
use Prim.Native.Nat.{ℕ, ◌+◌, ◌≤◌}
use native.Mathlib.Omega.{arith}
use lib.Dec.{eqb, leb}
use borrow.Author.Tests.{leb-false}
use Rattle.rules.proofs.Choices.{by_test}
use Rattle.bus.specs.declared.word.Word.{Word}
use Rattle.bus.specs.Command.{address_of}
use Rattle.formats.specs.Row.{status_cell, reply_cell, last_cell, highest_cell}
use Rattle.exchange.specs.declared.order.Order.{Order}
use Rattle.exchange.specs.declared.state.Stage.{Stage}
use Rattle.exchange.specs.declared.state.Stage.TheVariants.{
  Awaiting,
  Reply,
  AwaitingLast,
  Ended,
}
use Rattle.exchange.specs.declared.state.Exchange.{Exchange}
use Rattle.exchange.specs.declared.judge.WordAct.{WordAct}
use Rattle.exchange.specs.declared.judge.WordAct.TheVariants.{Fault, Take}
use Rattle.exchange.specs.Order.{format_for, awaited, awaited_last}
use Rattle.exchange.specs.Judge.{status_heard, data_heard, word_heard, on_word}
use Rattle.exchange.proofs.OrderLaws.{last_at_most}

-- the cell of a word that is taken
pub data BehindGiven (order : Order) : WordAct → Type 0 where
  not_taken : {code : ℕ} → BehindGiven order (Fault code)
  taken : {cell : ℕ} {next : Exchange} → (format_for order).given ≤ cell → cell ≤ highest_cell
      → BehindGiven order (Take cell next)

module _ (order : Order) (exchange : Exchange) (word : Word) where
  of_status : (cell station : ℕ) (next : Stage) → (format_for order).given ≤ cell
      → cell ≤ highest_cell → BehindGiven order (status_heard cell station next exchange word)
  unfolding status_heard
  of_status cell station next least most =
      by_test (BehindGiven order) (not word.sync) (λ is. not_taken)
      (λ is. by_test (BehindGiven order) (not (eqb (address_of word.value) station))
      (λ is. not_taken) (λ is. taken least most))

  of_data : (complete : Bool) (first : ℕ) → (format_for order).given ≤ first
      → (complete ≡ false → first + exchange.taken ≤ highest_cell)
      → BehindGiven order (data_heard complete first exchange word)
  unfolding data_heard
  of_data complete first least most =
      by_test (BehindGiven order) (not word.joined) (λ is. not_taken)
      (λ is. by_test (BehindGiven order) complete (λ is. not_taken)
      (λ due. by_test (BehindGiven order) word.sync (λ is. not_taken)
      (λ is. taken (omega (arith, least)) (most due))))

  of_stage : (stage : Stage) → BehindGiven order (word_heard stage order exchange word)
  unfolding word_heard
  of_stage Awaiting =
      of_status (status_cell (format_for order)) (awaited order) Reply (omega arith)
      (omega (arith, last_at_most order))
  of_stage Reply =
      of_data (leb (format_for order).reply exchange.taken) (reply_cell (format_for order))
      (omega arith)
      (λ due.
      omega (
        arith,
        last_at_most order,
        leb-false (format_for order).reply exchange.taken due,
      ))
  of_stage AwaitingLast =
      of_status (last_cell (format_for order)) (awaited_last order) Ended (omega arith)
      (last_at_most order)
  of_stage Ended =
      of_data true (reply_cell (format_for order)) (omega arith) (λ due. absurd (true≢false due))

  -- whatever the stage
  pub stored_behind_given : BehindGiven order (on_word order exchange word)
  unfolding on_word
  stored_behind_given =
      by_test (BehindGiven order) (not word.sound) (λ is. not_taken)
      (λ is. of_stage exchange.stage)
