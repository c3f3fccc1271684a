-- The chain rule, for memory of any length: a closing, sound or broken, takes its chain on by the
-- link of its block, and the next opening by that table cell takes the block that the link names.
-- Definitions only; proved in `proofs/ChainLaws`. Assumes nothing.
use Rattle.std.specs.Prelude.{
  ◌≡◌,
  ◌≢◌,
  true,
  false,
  List,
  [],
  ◌∷◌,
  ◌++◌,
  ℕ,
  ◌<◌,
  length,
  Option,
  Some,
}
use Rattle.bus.specs.declared.word.Word.{Word}
use Rattle.card.specs.Memory.{the_cell, cell_at}
use Rattle.card.specs.TableWord.{block_of}
use Rattle.message.specs.declared.state.OpenMessage.{OpenMessage}
use Rattle.message.specs.Asked.{asked_of, asks}
use Rattle.terminal.specs.State.{Card}
use Rattle.terminal.specs.Event.{Event, word, none}
use Rattle.terminal.specs.Machine.{step, run}
use Rattle.terminal_laws.specs.Closes.{OpenWithBlock, Closes}
use Rattle.terminal_laws.specs.Written.{table_address, MayWrite}

-- the link of the message's block: cell 63, all sixteen bits
abbrev pub link_of : OpenMessage → Card → ℕ
link_of message old = cell_at old.ram message.block (the_cell 63)

-- what stands in its table cell
abbrev pub table_word_of : OpenMessage → Card → ℕ
table_word_of message old = cell_at old.ram message.table (asks message).cell

-- what is asked: the event closes a message that has a block, the host has not set the table block
-- since its opening, and memory has the table cell
pub record ChainCloses (old : Card) (message : OpenMessage) (event : Event) : Type 0 where
  pub with_block : OpenWithBlock old message
  pub closes : Closes old message event
  pub table_stays : message.moved ≡ false
  pub in_memory : table_address message < length old.ram

-- a command opens by the same table cell: a message opens, its chain has that cell, and the table
-- is the block that it was
pub record OpensBy (message : OpenMessage) (heard : Word) (old : Card) : Type 0 where
  pub opens : (step (word heard) old).opened ≢ none
  pub has_block : (asked_of heard.value).block ≡ true
  pub same_cell : (asked_of heard.value).cell ≡ (asks message).cell
  pub same_table : old.core.table ≡ message.table

-- none of these events may write the address
unfoldable pub Untouched : ℕ → List Event → Card → Type 0
Untouched address [] old = Unit {0}
Untouched address (event ∷ events) old =
    (MayWrite old event address → ⊥) × Untouched address events (step event old).card

-- the next opening by that cell, after any events between which may not write it
pub record OpensNext (message : OpenMessage) (between : List Event) (heard : Word) (old : Card)
    : Type 0 where
  pub untouched : Untouched (table_address message) (between ++ word heard ∷ []) old
  pub opens_by : OpensBy message heard (run between old)

-- a message is open in the block that a table word names
pub data OpenIn (table_word : ℕ) : Option OpenMessage → Type 0 where
  open_in : {message : OpenMessage} → message.block ≡ block_of table_word
      → OpenIn table_word (Some message)
