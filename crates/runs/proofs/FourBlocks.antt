-- Document 01's tray run on a card of four blocks, which the checker computes sooner than one of
-- 256. Definitions only. Assumes nothing.
use Rattle.std.proofs.Common.{None}
use mathlib.Core.Bool.{Bool, true, false}
use mathlib.Core.List.{List, [], ◌∷◌}
use Prim.Native.Nat.{ℕ}
use lib.ListN.{replicate}
use Rattle.card.specs.Memory.{the_block}
use Rattle.queue.specs.Queue.{empty_queue}
use Rattle.message.specs.declared.state.Stage.TheVariants.{Data}
use Rattle.message.specs.declared.state.OpenMessage.{OpenMessage}
use Rattle.terminal.specs.State.{Card, card, core_at_setup}
use Rattle.terminal.specs.Event.{Event}
use Rattle.terminal.specs.Machine.{run}
use Rattle.runs.proofs.Telling.{put, receive, word1, word2}

-- station 5, table block 1, memory of so many words, all zero; then some events
unfoldable pub small : ℕ → List Event → Card
small words events =
    run events
    (card (core_at_setup 5 (the_block 1) 0) empty_queue (replicate words 0))

-- four blocks: table cell 3 names block 2, whose link is 4003
abbrev pub four_blocks : List Event → Card
four_blocks events = small 256 (put 1 3 0x4002 ∷ put 2 63 0x4003 ∷ events)

-- the message of the receive command by a table block, in a block, by whether the host has set the
-- table block since, and the words taken
abbrev pub received_by : ℕ → ℕ → Bool → ℕ → OpenMessage
received_by table block moved taken =
    record {
      command = 0x2862;
      line = false;
      block = the_block block;
      table = the_block table;
      moved = moved;
      busy = false;
      queued = true;
      opened = 0x28;
      taken = taken;
      second = None;
      stage = Data;
    }

-- by table block 1
abbrev pub received_in : ℕ → Bool → ℕ → OpenMessage
received_in = received_by 1

-- in block 2, which the run takes
abbrev pub received : Bool → ℕ → OpenMessage
received = received_in 2

-- with one data word, and with both
abbrev pub begun : Card
begun = four_blocks (receive ∷ word1 ∷ [])

abbrev pub filled : Card
filled = four_blocks (receive ∷ word1 ∷ word2 ∷ [])
