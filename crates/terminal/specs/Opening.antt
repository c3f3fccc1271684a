-- Opening: own commands, and what an opening does. Definitions only. Assumes nothing.
use Rattle.std.specs.Prelude.{Bool, false, cond, ◌&&◌, ◌||◌, List, ℕ, None, Some}
use Rattle.bits.specs.Bit.{has_bit}
use Rattle.bus.specs.declared.word.Word.{Word}
use Rattle.bus.specs.Status.{status_word, caught_status}
use Rattle.card.specs.Memory.{the_block, cell_at}
use Rattle.card.specs.TableWord.{is_busy, wants_queue, block_of}
use Rattle.message.specs.declared.asked.Asked.{Asked}
use Rattle.message.specs.declared.state.Stage.TheVariants.{Data, Skipping}
use Rattle.message.specs.declared.state.OpenMessage.{OpenMessage}
use Rattle.message.specs.Asked.{asked_of}
use Rattle.terminal.specs.declared.state.Core.{Core}
use Rattle.terminal.specs.State.{Card, with_status, with_last, with_message, with_core}

-- busy: flag 1 or, with a block, the table word's bit 15
abbrev pub busy_at : Asked → ℕ → ℕ → Bool
busy_at asked flags table_word = has_bit flags 2 || (asked.block && is_busy table_word)

-- the message that a word opens, over its chain's table word. Busy, block and bit 14 are fixed
-- here
unfoldable pub opened_message : Asked → ℕ → Word → Core → OpenMessage
opened_message asked table_word word core =
    record {
      command = word.value;
      line = word.line;
      block = cond asked.block (block_of table_word) (the_block 0);
      table = core.table;
      moved = false;
      busy = busy_at asked core.flags table_word;
      queued = asked.block && wants_queue table_word;
      opened = word.time;
      taken = 0;
      second = None;
      stage = cond asked.illegal Skipping Data;
    }

-- a legal code 2 keeps remembered status, a legal code 18 also last command; any other opening sets
-- last command, and remembered status from caught bits
unfoldable pub opened_status : Asked → ℕ → Word → Core → ℕ
opened_status asked table_word word core =
    cond asked.fresh
    (status_word (caught_status core.station asked.illegal word.value core.flags
    (busy_at asked core.flags table_word) core.inhibit))
    core.status

unfoldable pub opened_core : OpenMessage → Asked → ℕ → Word → Core → Core
opened_core message asked table_word word core =
    with_message (Some message)
    (with_last (cond asked.last core.last word.value)
    (with_status (opened_status asked table_word word core) core))

-- ---- over memory

-- the table word of the chain that a command goes by
abbrev pub table_word_at : Word → Core → List ℕ → ℕ
table_word_at word core ram = cell_at ram core.table (asked_of word.value).cell

-- the message that a command opens
abbrev pub opened_as : Word → Core → List ℕ → OpenMessage
opened_as word core ram =
    opened_message (asked_of word.value) (table_word_at word core ram) word core

-- the core after it
abbrev pub opened_at : Word → Core → List ℕ → Core
opened_at word core ram =
    opened_core (opened_as word core ram) (asked_of word.value) (table_word_at word core ram)
    word core

unfoldable pub opening : Word → Card → Card
opening word old = with_core (opened_at word old.core old.ram) old
