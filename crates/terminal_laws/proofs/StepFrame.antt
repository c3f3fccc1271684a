-- What one event leaves alone: every cell that `specs/Written.antt` does not let it write, on every
-- card, fit or not, over memory of any length.
--     step-writes-only           the law
--     word-step, silence-step    what a step does where a message is open
-- Assumes nothing.
use Rattle.std.proofs.Common.{None, Option, Some}
use mathlib.Core.Path.{◌≡◌, refl, ap, ◌∙◌}
use mathlib.Core.Bool.{Bool, true, false, cond}
use mathlib.Core.List.{List}
use Prim.Native.Nat.{ℕ, ◌≤◌}
use Rattle.bus.specs.declared.word.Word.{Word}
use Rattle.card.specs.declared.place.Block.{Block}
use Rattle.card.specs.declared.place.Cell.{Cell}
use Rattle.card.specs.Memory.{the_cell, word_address, with_service}
use Rattle.card.specs.Time.{ticks_of}
use Rattle.card.proofs.Frame.{
  Keeps,
  keeps_then,
  keeps_to_more,
  cell_keeps,
  service_keeps,
  link_keeps,
  words_keep,
}
use Rattle.message.specs.declared.asked.Asked.{Asked}
use Rattle.message.specs.declared.judge.WordAct.{WordAct}
use Rattle.message.specs.declared.judge.WordAct.TheVariants.{
  Ignore,
  Store,
  Check,
  TakeSecond,
  TakeStatus,
  Fault,
  Supersede,
  Drop,
}
use Rattle.message.specs.declared.judge.SilenceAct.{SilenceAct}
use Rattle.message.specs.declared.judge.SilenceAct.TheVariants as silence_acts
use Rattle.message.specs.declared.state.OpenMessage.{OpenMessage}
use Rattle.message.specs.Asked.{asks}
use Rattle.message.specs.Words.{own_command}
use Rattle.terminal.specs.State.{Card}
use Rattle.terminal.specs.Opening.{opening}
use Rattle.terminal.specs.Closing.{linked, closed_ram, closing, faulted, ended}
use Rattle.terminal.specs.Event.{
  Event,
  word,
  silence,
  read_queue,
  host_write,
  move_table,
  set_flags,
  opens,
  quietly,
}
use Rattle.terminal.specs.WordStep.{word_done, word_met, word_step}
use Rattle.terminal.specs.SilenceStep.{silence_done, silence_met, silence_step}
use Rattle.terminal.specs.Machine.{
  read_queue_step,
  host_write_step,
  move_table_step,
  set_flags_step,
  step,
}
use Rattle.terminal_laws.specs.Closes.{
  OpenWithBlock,
  word_judged,
  silence_judged,
  Closes,
  by_fault,
  by_superseding,
  by_silence,
  by_sound_end,
}
use Rattle.terminal_laws.specs.Written.{
  MayWrite,
  data_cell,
  service_cell,
  table_cell,
  host_cell,
  WritesOnly,
}
use Rattle.terminal_laws.proofs.StoreLaws.{stores_with_block, stores_data}

-- ---- what a step does where a message is open, by what the word or the silence was judged

module _ (old : Card) (message : OpenMessage) (is_open : old.core.message ≡ Some message) where
  pub word_step_lem : (heard : Word) {act : WordAct} → word_judged old message heard ≡ act
      → step (word heard) old ≡ word_done act (asks message) message heard old
  unfolding step word_step
  word_step_lem heard judged =
      ap (λ (there : Option OpenMessage). word_met there heard old) is_open
      ∙ ap (λ (act : WordAct). word_done act (asks message) message heard old) judged

  pub silence_step_lem : (line : Bool) (time : ℕ) {act : SilenceAct}
      → silence_judged message line ≡ act
      → step (silence line time) old
      ≡ silence_done act (asks message) message time old
  unfolding step silence_step
  silence_step_lem line time judged =
      ap (λ (there : Option OpenMessage). silence_met there line time old) is_open
      ∙ ap (λ (act : SilenceAct). silence_done act (asks message) message time old)
      judged

-- ---- changes of memory

module _ {Written : ℕ → Type 0} where
  nothing_written : (ram : List ℕ) → WritesOnly Written ram ram
  nothing_written ram = record { same_length = refl; same_else = λ address else. refl }

  written_by : {change : List ℕ → List ℕ} → Keeps Written change
      → (ram : List ℕ) → WritesOnly Written ram (change ram)
  written_by keeps ram =
      record { same_length = keeps.same_length ram; same_else = keeps.same_else ram }

  -- a closing: cells 58 to 61, and the table cell unless the host has set the table block since
  pub written_closing : (asked : Asked) (state time : ℕ) (message : OpenMessage) (ram : List ℕ)
      → (asked.block ≡ true → (cell : Cell) (address : ℕ) → 58 ≤ cell.0 → cell.0 ≤ 61
      → address ≡ word_address message.block cell → Written address)
      → (asked.block ≡ true → message.moved ≡ false → (address : ℕ)
      → address ≡ word_address message.table asked.cell → Written address)
      → WritesOnly Written ram (closed_ram asked state time message ram)
  unfolding closed_ram
  written_closing asked state time message ram = go asked.block message.moved
    where
      block : Block
      block = message.block

      ticks : ℕ
      ticks = ticks_of message.opened time

      service : ((cell : Cell) (address : ℕ) → 58 ≤ cell.0 → cell.0 ≤ 61
          → address ≡ word_address block cell → Written address)
          → Keeps Written (λ ram. with_service ram block state time ticks)
      service may =
          keeps_to_more
          (λ address written.
          may written.cell address written.from written.to written.is)
          (service_keeps block state time ticks)

      go : (has moved : Bool)
          → (has ≡ true → (cell : Cell) (address : ℕ) → 58 ≤ cell.0 → cell.0 ≤ 61
          → address ≡ word_address block cell → Written address)
          → (has ≡ true → moved ≡ false → (address : ℕ)
          → address ≡ word_address message.table asked.cell → Written address)
          → WritesOnly Written ram
          (cond has
          (linked moved block message.table asked.cell
          (with_service ram block state time ticks))
          ram)
      go false moved may may_link = nothing_written ram
      go true true may may_link = written_by (service (may refl)) ram
      go true false may may_link =
          written_by
          (keeps_then (service (may refl))
          (keeps_to_more (may_link refl refl) (link_keeps block message.table asked.cell)))
          ram

-- ---- one event

module _ (old : Card) (message : OpenMessage) (is_open : old.core.message ≡ Some message) where
  abbrev with_block : (asks message).block ≡ true → OpenWithBlock old message
  with_block has = record { is_open = is_open; has_block = has }

  -- whatever closes the message
  closed_writes : {event : Event} (state time : ℕ) → Closes old message event
      → WritesOnly (MayWrite old event) old.ram
      (closed_ram (asks message) state time message old.ram)
  closed_writes state time closes =
      written_closing (asks message) state time message old.ram
      (λ has cell address from to is. service_cell (with_block has) closes from to is)
      (λ has stays address is. table_cell (with_block has) closes stays is)

  -- rule 8
  stored_writes : (heard : Word) (next : ℕ) → word_judged old message heard ≡ Store next
      → (address : ℕ) → address ≡ word_address message.block (the_cell message.taken)
      → MayWrite old (word heard) address
  stored_writes heard next judged address is =
      data_cell (with_block (stores_with_block old message heard next judged))
      (stores_data old message heard next judged) is

  word_done_writes : (act : WordAct) (heard : Word) → word_judged old message heard ≡ act
      → WritesOnly (MayWrite old (word heard)) old.ram
      (word_done act (asks message) message heard old).card.ram
  unfolding word_done faulted closing opening
  word_done_writes Ignore heard judged = nothing_written old.ram
  word_done_writes (Store next) heard judged =
      written_by
      (keeps_to_more (stored_writes heard next judged)
      (cell_keeps message.block (the_cell message.taken) heard.value))
      old.ram
  word_done_writes (Check next) heard judged = nothing_written old.ram
  word_done_writes (TakeSecond value) heard judged = nothing_written old.ram
  word_done_writes TakeStatus heard judged = nothing_written old.ram
  word_done_writes (Fault code) heard judged = closed_writes _ heard.time (by_fault judged)
  word_done_writes Supersede heard judged = closed_writes _ heard.time (by_superseding judged)
  word_done_writes Drop heard judged = nothing_written old.ram

  silence_done_writes : (act : SilenceAct) (line : Bool) (time : ℕ)
      → silence_judged message line ≡ act
      → WritesOnly (MayWrite old (silence line time)) old.ram
      (silence_done act (asks message) message time old).card.ram
  unfolding silence_done faulted ended closing
  silence_done_writes silence_acts.Ignore line time judged = nothing_written old.ram
  silence_done_writes silence_acts.AwaitStatus line time judged = nothing_written old.ram
  silence_done_writes (silence_acts.Fault code) line time judged =
      closed_writes _ time (by_silence judged)
  silence_done_writes silence_acts.End line time judged =
      closed_writes _ time (by_sound_end judged)

-- with nothing open, a word writes nothing
idle_writes : {Written : ℕ → Type 0} (own : Bool) (heard : Word) (old : Card)
    → WritesOnly Written old.ram (cond own (opens heard old) (quietly old)).card.ram
unfolding opening
idle_writes true heard old = nothing_written old.ram
idle_writes false heard old = nothing_written old.ram

word_writes : (heard : Word) (old : Card)
    → WritesOnly (MayWrite old (word heard)) old.ram (step (word heard) old).card.ram
unfolding step word_step
word_writes heard old = go old.core.message refl
  where
    go : (message : Option OpenMessage) → old.core.message ≡ message
        → WritesOnly (MayWrite old (word heard)) old.ram (word_met message heard old).card.ram
    go None is =
        idle_writes (own_command old.core.station old.core.flags heard) heard old
    go (Some message) is =
        word_done_writes old message is (word_judged old message heard) heard refl

silence_writes : (line : Bool) (time : ℕ) (old : Card)
    → WritesOnly (MayWrite old (silence line time)) old.ram
    (step (silence line time) old).card.ram
unfolding step silence_step
silence_writes line time old = go old.core.message refl
  where
    go : (message : Option OpenMessage) → old.core.message ≡ message
        → WritesOnly (MayWrite old (silence line time)) old.ram
        (silence_met message line time old).card.ram
    go None is = nothing_written old.ram
    go (Some message) is =
        silence_done_writes old message is (silence_judged message line) line time refl

-- the law
pub step_writes_only : (event : Event) (old : Card)
    → WritesOnly (MayWrite old event) old.ram (step event old).card.ram
unfolding step read_queue_step host_write_step move_table_step set_flags_step
step_writes_only (word heard) old = word_writes heard old
step_writes_only (silence line time) old = silence_writes line time old
step_writes_only read_queue old = nothing_written old.ram
step_writes_only (host_write start words) old =
    written_by
    (keeps_to_more (λ address at. host_cell at.0 at.1) (words_keep start words))
    old.ram
step_writes_only (move_table table) old = nothing_written old.ram
step_writes_only (set_flags flags) old = nothing_written old.ram
