-- The theorems over every event and every run of the terminal, each by its statement. The words are
-- those of `specs/` here and in `terminal`; the proofs stand in the files that are cited. Assumes
-- nothing.
use Rattle.std.proofs.Common.{Some}
use mathlib.Core.Path.{◌≡◌}
use mathlib.Core.Logic.{◌≢◌}
use mathlib.Core.Bool.{Bool}
use mathlib.Core.List.{List, ◌∷◌}
use Prim.Native.Nat.{ℕ}
use Rattle.bus.specs.declared.word.Word.{Word}
use Rattle.card.specs.declared.place.Cell.{Cell}
use Rattle.card.specs.Memory.{word_address, cell_at}
use Rattle.message.specs.declared.state.OpenMessage.{OpenMessage}
use Rattle.terminal.specs.declared.state.Reply.{Reply}
use Rattle.terminal.specs.declared.state.Answer.TheVariants.{Replied}
use Rattle.terminal.specs.State.{Card}
use Rattle.terminal.specs.Reply.{reply_words}
use Rattle.terminal.specs.Event.{Event, word, silence}
use Rattle.terminal.specs.Machine.{step, run}
use Rattle.terminal_laws.specs.Closes.{Becomes}
use Rattle.terminal_laws.specs.Written.{
  table_address,
  MayWrite,
  WritesOnly,
  OnBus,
  OtherCell,
}
use Rattle.terminal_laws.specs.Chain.{
  link_of,
  table_word_of,
  ChainCloses,
  OpensBy,
  OpensNext,
  OpenIn,
}
use Rattle.terminal_laws.specs.OneBlock.{BrokenMessage, SameAfter, ThatBlock}
use Rattle.terminal_laws.proofs.FitParts.{FitCard}
use Rattle.terminal_laws.proofs.FitLaws.{FitEvent, AllFit}
use Rattle.terminal_laws.proofs.FitLaws as fit
use Rattle.terminal_laws.proofs.StepFrame as frame
use Rattle.terminal_laws.proofs.OtherCells as cells
use Rattle.terminal_laws.proofs.ClosesLaws as closes
use Rattle.terminal_laws.proofs.ChainLaws as chain
use Rattle.terminal_laws.proofs.ReplyLaws as reply
use Rattle.terminal_laws.proofs.OneBlock.Theorem as demand

-- ---- demand 1: no event takes a fit state to an unfit one, and no run does

fit_stays_fit : (event : Event) (old : Card)
    → FitEvent event → FitCard old → FitCard (step event old).card
fit_stays_fit = fit.fit_stays_fit

fit_run : (events : List Event) (old : Card)
    → AllFit events → FitCard old → FitCard (run events old)
fit_run = fit.fit_run

-- ---- demand 2: every cell that an event may not write is as it was

step_writes_only : (event : Event) (old : Card)
    → WritesOnly (MayWrite old event) old.ram (step event old).card.ram
step_writes_only = frame.step_writes_only

-- .. so are the other cells of a message's block, save the table cell
other_cells_kept : {event : Event} (old : Card) (message : OpenMessage) (cell : Cell)
    → old.core.message ≡ Some message → OnBus event
    → OtherCell cell → word_address message.block cell ≢ table_address message
    → cell_at (step event old).card.ram message.block cell
    ≡ cell_at old.ram message.block cell
other_cells_kept = cells.other_cells_kept

-- an open message closes, or is dropped, or stays open as it was opened
message_becomes : (event : Event) (old : Card) (message : OpenMessage)
    → old.core.message ≡ Some message → Becomes old message event
message_becomes = closes.message_becomes

-- a closing puts the link of its block into its table cell
chain_moves_on : (old : Card) (message : OpenMessage) (event : Event)
    → ChainCloses old message event
    → table_word_of message (step event old).card ≡ link_of message old
chain_moves_on = chain.chain_moves_on

-- .. and the next opening by that cell takes the block that the link names
next_opening_takes : (old : Card) (message : OpenMessage) (event : Event)
    (between : List Event) (heard : Word)
    → ChainCloses old message event → OpensNext message between heard (step event old).card
    → OpenIn (link_of message old)
    (step (word heard) (run between (step event old).card)).card.core.message
next_opening_takes = chain.next_opening_takes

superseding_takes : (old : Card) (message : OpenMessage) (heard : Word)
    → ChainCloses old message (word heard) → OpensBy message heard old
    → OpenIn (link_of message old) (step (word heard) old).card.core.message
superseding_takes = chain.superseding_takes

-- the words that a reply sends are those of the memory at the silence
words_of_the_silence : (line : Bool) (time : ℕ) (old : Card) (given : Reply)
    → (step (silence line time) old).answer ≡ Replied given
    → reply_words (step (silence line time) old).card.ram given ≡ reply_words old.ram given
words_of_the_silence = reply.words_of_the_silence

-- ---- demand 3: one broken message costs one block

one_block : (old : Card) (command : Word) (one two after : List Event)
    → BrokenMessage old command one two after
    → SameAfter (ThatBlock (step (word command) old).card.core.message) after
    (run (word command ∷ one) old) (run (word command ∷ two) old)
one_block = demand.one_block
