-- The words that a reply sends are those in memory at the silence, though they are read after the
-- closing: cell by cell `sent_cells_stay`, a reply's values `words_of_the_silence`. For every card,
-- fit or not, over memory of any length. Assumes nothing.
use Rattle.std.proofs.Common.{Some}
use mathlib.Core.Path.{◌≡◌, refl, sym, ap, subst, ◌∙◌}
use mathlib.Core.Bool.{Bool, true, false, cond, not, ◌&&◌}
use mathlib.Core.List.{List, ◌∷◌}
use Prim.Native.Nat.{ℕ, ◌≤◌, ◌<◌}
use native.Mathlib.Omega.{arith}
use lib.Dec.{eqb}
use lib.ListN.{length}
use Rattle.rules.proofs.Choices.{by_test}
use Rattle.rules.proofs.Clash.{clash}
use Rattle.card.specs.declared.place.Block.{Block}
use Rattle.card.specs.declared.place.Cell.{Cell}
use Rattle.card.specs.Memory.{data_cells, card_blocks, word_address, cell_at}
use Rattle.card.specs.Sent.{sent_part}
use Rattle.card.proofs.CellLaws.{part_of_same_cells}
use Rattle.card.proofs.PartLaws.{same_part}
use Rattle.message.specs.declared.judge.SilenceAct.{SilenceAct}
use Rattle.message.specs.declared.judge.SilenceAct.TheVariants.{Ignore, AwaitStatus, Fault, End}
use Rattle.message.specs.declared.state.OpenMessage.{OpenMessage}
use Rattle.message.specs.Asked.{asks}
use Rattle.message.proofs.AskedBounds.{sends_by_high_cell, cell_in_table}
use Rattle.terminal.specs.declared.state.Reply.{Reply}
use Rattle.terminal.specs.declared.state.Reply.TheVariants.{Silent, Status, Words, Last}
use Rattle.terminal.specs.declared.state.Answer.{Answer}
use Rattle.terminal.specs.declared.state.Answer.TheVariants.{Replied}
use Rattle.terminal.specs.State.{Card}
use Rattle.terminal.specs.Closing.{unless_busy, replies, reply_of}
use Rattle.terminal.specs.Reply.{reply_words}
use Rattle.terminal.specs.Event.{silence, Outcome}
use Rattle.terminal.specs.SilenceStep.{silence_done}
use Rattle.terminal.specs.Machine.{step}
use Rattle.terminal_laws.specs.Closes.{silence_judged}
use Rattle.terminal_laws.specs.Written.{MayWrite, service_cell, table_cell}
use Rattle.terminal_laws.proofs.OneBlock.Answers.{sent_at_most}
use Rattle.terminal_laws.proofs.StepFrame.{silence_step_lem, step_writes_only}

-- ---- the part that is sent

-- the same words in the cells make the same part
same_sent : (ram other : List ℕ) (block : Block) (count : ℕ) → length ram ≡ length other
    → ((cell : Cell) → cell.0 < count → cell_at ram block cell ≡ cell_at other block cell)
    → sent_part card_blocks ram block count ≡ sent_part card_blocks other block count
same_sent ram other block count long cells =
    same_part card_blocks data_cells ram other block count long
    (part_of_same_cells ram other block count long cells)

-- answers, with what holds where one sends words
data Sends (cell : Cell) : Answer → Type 0 where
  silent : Sends cell (Replied Silent)
  a_status : {status : ℕ} → Sends cell (Replied (Status status))
  a_last : {status last : ℕ} → Sends cell (Replied (Last status last))
  some_words : {status : ℕ} {block : Block} {count : ℕ} → 32 ≤ cell.0
      → Sends cell (Replied (Words status block count))

sends_some : (busy : Bool) (sends : ℕ) → eqb (cond busy 0 sends) 0 ≡ false → sends ≡ 0 → ⊥
sends_some true sends some none = clash (cc)
sends_some false sends some none =
    let some_of_none : eqb 0 0 ≡ false = rw none at some in clash (cc)

module _ (message : OpenMessage) (time : ℕ) (old : Card) where
  abbrev Given : Reply → Type 0
  Given reply = Sends (asks message).cell (Replied reply)

  high_done : (act : SilenceAct)
      → Sends (asks message).cell
      (silence_done act (asks message) message time old).answer
  unfolding silence_done reply_of
  high_done Ignore = silent
  high_done AwaitStatus = silent
  high_done (Fault code) = silent
  high_done End =
      let asked = asks message in
      by_test Given (not (replies old.core message)) (λ shut. silent) (λ given.
      by_test Given asked.last (λ last. a_last) (λ other.
      by_test Given (eqb (unless_busy asked message asked.sends) 0) (λ alone. a_status) (λ some.
      some_words
      (sends_by_high_cell message.command
      (sends_some (message.busy && asked.yields) asked.sends some)))))

high_cell : {cell : Cell} {status : ℕ} {block : Block} {count : ℕ}
    → Sends cell (Replied (Words status block count)) → 32 ≤ cell.0
high_cell (some_words high) = high

-- ---- the law

module _ (line : Bool) (time : ℕ) (old : Card) (status : ℕ) (block : Block) (count : ℕ)
    (replied : (step (silence line time) old).answer ≡ Replied (Words status block count)) where
  high_table_cell : (message : OpenMessage) → old.core.message ≡ Some message
      → 32 ≤ (asks message).cell.0
  high_table_cell message is_open =
      high_cell
      (subst (Sends (asks message).cell)
      (sym (ap (λ (outcome : Outcome). outcome.answer)
      (silence_step_lem old message is_open line time refl))
      ∙ replied)
      (high_done message time old (silence_judged message line)))

  -- the closing writes none of the cells that are sent
  sent_cell_unwritten : (cell : Cell) (address : ℕ) → cell.0 < count
      → address ≡ word_address block cell → MayWrite old (silence line time) address → ⊥
  sent_cell_unwritten cell address below at (service_cell with_block closes from to is) =
      omega (arith, sent_at_most (silence line time) old status block count replied)
  sent_cell_unwritten cell address below at
      (table_cell {message = message} with_block closes stays is) =
      omega (
        arith,
        sent_at_most (silence line time) old status block count replied,
        high_table_cell message with_block.is_open,
        cell_in_table message.command,
      )

-- the cells that are sent hold what they held
pub sent_cells_stay : (line : Bool) (time : ℕ) (old : Card) (status : ℕ) (block : Block) (count : ℕ)
    (cell : Cell)
    → (step (silence line time) old).answer ≡ Replied (Words status block count) → cell.0 < count
    → cell_at (step (silence line time) old).card.ram block cell ≡ cell_at old.ram block cell
unfolding cell_at
sent_cells_stay line time old status block count cell replied below =
    (step_writes_only (silence line time) old).same_else (word_address block cell)
    (sent_cell_unwritten line time old status block count replied cell (word_address block cell)
    below refl)

-- so the values of the reply are the same before and after
pub words_of_the_silence : (line : Bool) (time : ℕ) (old : Card) (reply : Reply)
    → (step (silence line time) old).answer ≡ Replied reply
    → reply_words (step (silence line time) old).card.ram reply ≡ reply_words old.ram reply
words_of_the_silence line time old Silent replied = refl
words_of_the_silence line time old (Status status) replied = refl
words_of_the_silence line time old (Words status block count) replied =
    ap (λ (sent : List ℕ). status ∷ sent)
    (same_sent (step (silence line time) old).card.ram old.ram block count
    (step_writes_only (silence line time) old).same_length
    (λ cell below. sent_cells_stay line time old status block count cell replied below))
words_of_the_silence line time old (Last status command) replied = refl
