-- The lines of the terminal's state, an item a line; the items of an open message stand on one
-- line. Definitions only. Assumes nothing.
use Rattle.std.specs.Prelude.{
  Bool,
  cond,
  List,
  [],
  ◌∷◌,
  ◌++◌,
  ℕ,
  zero,
  suc,
  ◌+◌,
  ◌/◌,
  ◌%◌,
  eqb,
  get_or,
  None,
  Option,
  Some,
}
use Rattle.queue.specs.declared.Ring.{Ring}
use Rattle.queue.specs.Queue.{queue_places}
use Rattle.message.specs.declared.state.Stage.{Stage}
use Rattle.message.specs.declared.state.Stage.TheVariants.{
  Data,
  SecondCommand,
  AwaitingStatus,
  Skipping,
}
use Rattle.message.specs.declared.state.OpenMessage.{OpenMessage}
use Rattle.terminal.specs.declared.state.Core.{Core}
use Rattle.queue.specs.declared.Queue.{Queue}
use Rattle.lines.specs.Digits.{hex_byte, hex_word, decimal}
use Rattle.lines.specs.Lines.{blank, newline}
use Rattle.tray.specs.declared.run.Tray.{Tray as HeldTray}
use Rattle.shown.specs.Text.{bytes}
use Rattle.shown.specs.Item.{item, part, line, mark_text}

-- ---- the open message

-- the bus line that its command came on
abbrev pub line_name : Bool → List ℕ
line_name line = cond line (bytes "B") (bytes "A")

-- the second command, where there is one
abbrev pub second_text : Option ℕ → List ℕ
second_text None = bytes "none"
second_text (Some command) = hex_word command

-- a time has 32 bits
abbrev pub time_text : ℕ → List ℕ
time_text time = hex_word (time / 65536 % 65536) ++ hex_word (time % 65536)

-- what the message waits for
abbrev pub stage_text : Stage → List ℕ
stage_text Data = bytes "data"
stage_text SecondCommand = bytes "second"
stage_text AwaitingStatus = bytes "awaiting"
stage_text Skipping = bytes "skipping"

-- command, line and block
unfoldable pub opening_text : OpenMessage → List ℕ
opening_text message =
    part "open " (hex_word message.command)
    ++ part "line " (line_name message.line)
    ++ part "block " (decimal message.block.0)

-- the table block, and what was fixed with it
unfoldable pub fixed_text : OpenMessage → List ℕ
fixed_text message =
    part "table " (decimal message.table.0)
    ++ part "moved " (mark_text message.moved)
    ++ part "busy " (mark_text message.busy)
    ++ part "queued " (mark_text message.queued)

-- how far the message has come
unfoldable pub progress_text : OpenMessage → List ℕ
progress_text message =
    part "opened " (time_text message.opened)
    ++ part "taken " (decimal message.taken)
    ++ part "second " (second_text message.second)
    ++ line "stage " (stage_text message.stage)

-- all its items, where a message is open
unfoldable pub message_text : Option OpenMessage → List ℕ
message_text None = bytes "open none\n"
message_text (Some message) = opening_text message ++ fixed_text message ++ progress_text message

-- ---- the queue

-- oldest first: so many places from the queue's start on, round the ring
unfoldable pub blocks_from : List ℕ → ℕ → ℕ → List ℕ
blocks_from places start zero = []
blocks_from places start (suc count) =
    get_or places (start % queue_places) 0 ∷ blocks_from places (start + 1) count

-- each block after a blank
unfoldable pub each_block : List ℕ → List ℕ
each_block [] = []
each_block (block ∷ blocks) = (blank ∷ decimal block) ++ each_block blocks

-- the blocks that wait, where any do
unfoldable pub waiting_text : List ℕ → Ring → List ℕ
waiting_text places ring =
    cond (eqb ring.count 0)
    (bytes "waiting none\n")
    (item (bytes "waiting") (each_block (blocks_from places ring.start ring.count)) newline)

-- overflow, and the blocks that wait
unfoldable pub queue_text : Queue → List ℕ
queue_text queue =
    line "overflow " (mark_text queue.ring.overflow) ++ waiting_text queue.places queue.ring

-- ---- the terminal

-- what setup and the host have set
unfoldable pub words_text : Core → List ℕ
words_text core =
    line "station " (decimal core.station)
    ++ line "table " (decimal core.table.0)
    ++ line "flags " (hex_byte (core.flags % 256))

-- remembered status and last command
unfoldable pub remembered_text : Core → List ℕ
remembered_text core =
    line "status " (hex_word core.status) ++ line "last " (hex_word core.last)

-- what mode commands have switched
unfoldable pub switches_text : Core → List ℕ
switches_text core =
    line "shut A " (mark_text core.shut.a)
    ++ line "shut B " (mark_text core.shut.b)
    ++ line "inhibit " (mark_text core.inhibit)

-- all but the queue and the open message
unfoldable pub core_text : Core → List ℕ
core_text core = words_text core ++ remembered_text core ++ switches_text core

-- every item
unfoldable pub terminal_text : Core → Queue → List ℕ
terminal_text core queue = core_text core ++ queue_text queue ++ message_text core.message

-- before a setup was taken there is no terminal
unfoldable pub state_text : HeldTray → List ℕ
state_text run =
    cond run.seen.setup (terminal_text run.core run.queue) (bytes "terminal none\n")
