-- Refusal 4: which states are fit. Document 01's list, clause by clause; what is not on the list is
-- free. Definitions only. Assumes nothing.
use Rattle.std.specs.Prelude.{Bool, ◌&&◌, ℕ}
use Rattle.bus.specs.Limits.{is_station, are_flags}
use Rattle.card.specs.Memory.{card_blocks, is_block}
use Rattle.queue.specs.Queue.{fit_queue}
use Rattle.message.specs.Fitness.{fit_message}
use Rattle.terminal.specs.declared.state.Core.{Core}
use Rattle.terminal.specs.State.{Card}

-- on a card of so many blocks: station, table and flags as setup takes them, and the open message,
-- where there is one
unfoldable pub fit_core : ℕ → Core → Bool
fit_core blocks core =
    is_station core.station && is_block blocks core.table && are_flags core.flags
    && fit_message blocks core.message core.station

-- .. and the queue
abbrev pub fit_card : Card → Bool
fit_card old = fit_core card_blocks old.core && fit_queue card_blocks old.queue
