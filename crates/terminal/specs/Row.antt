-- Data words that the open message stores, one or a row of them: the cells behind the words taken
-- hold them, and so many more are taken. Definitions only. Assumes nothing.
use Rattle.std.specs.Prelude.{List, ℕ, ◌+◌, length, Some}
use Rattle.bus.specs.declared.word.Word.{Word}
use Rattle.bus.specs.DataWords.{values_of}
use Rattle.card.specs.Memory.{the_cell, with_cell, with_cells}
use Rattle.message.specs.declared.state.Stage.TheVariants.{Data}
use Rattle.message.specs.declared.state.OpenMessage.{OpenMessage}
use Rattle.message.specs.Message.{further}
use Rattle.terminal.specs.declared.state.Core.{Core}
use Rattle.terminal.specs.State.{Card, card, with_message}

-- the open message goes on in its data, with so many words taken
abbrev pub with_taken : ℕ → OpenMessage → Core → Core
with_taken taken message core =
    with_message (Some (further Data message.second taken message)) core

-- a data word is stored, and so many are taken then
abbrev pub word_stored : ℕ → ℕ → OpenMessage → Card → Card
word_stored value taken message old =
    card (with_taken taken message old.core) old.queue
    (with_cell old.ram message.block (the_cell message.taken) value)

-- a row of data words is stored
abbrev pub row_stored : List Word → OpenMessage → Card → Card
row_stored row message old =
    card (with_taken (message.taken + length row) message old.core) old.queue
    (with_cells old.ram message.block message.taken (values_of row))
