-- What is proved of the joined bus, statement by statement. Assumes nothing.
use mathlib.Core.Path.{◌≡◌}
use Prim.Native.Nat.{ℕ}
use Rattle.message.specs.Asked.{asked_of}
use Rattle.formats.specs.declared.row.Row.TheVariants.{ModeAlone}
use Rattle.exchange.specs.declared.order.Order.{Order}
use Rattle.rack.specs.Hearing.{Stamps}
use Rattle.rack.specs.Bus.{Rack}
use Rattle.rack.specs.Asked.{FitOrder}
use Rattle.rack.specs.SameWords.{BothEndsHoldTheSame, AskedEach, PromisedEach}
use Rattle.rack.specs.Ending.{EveryMessageEnds}
use Rattle.rack.proofs.Terminal.Columns.{alone_takes_nothing}
use Rattle.rack.proofs.Message.EveryRow.{message_promised, run_promised}
use Rattle.rack.proofs.Ending.Message.{message_ends}

-- after a message of fit commands, for which the terminals are ready, controller and terminals hold
-- the same data words, the code is 0, who took a command has changed no cell but those of the
-- message, and who took none is as before: for every row of the table, with X and without, for any
-- number of terminals and at any stamps
pub both_ends_hold_the_same : BothEndsHoldTheSame
both_ends_hold_the_same = message_promised

-- row 3 has no data words: of the cells that may change cells 58 to 61 and the link are left
pub row_3_takes_no_words : (order : Order) → FitOrder order → order.row ≡ ModeAlone
    → (asked_of order.first).takes ≡ 0
row_3_takes_no_words = alone_takes_nothing

-- and so after each message of a run, however long, if as much is asked of each as it starts; where
-- no message is started, nothing changes
pub a_run_holds_the_same : (count : ℕ) (clocks : ℕ → ℕ → Stamps) (old : Rack)
    → AskedEach count clocks old → PromisedEach count clocks old
a_run_holds_the_same = run_promised

-- every message that starts ends, whatever its commands ask of idle terminals: within three turns
-- the controller is idle and no reply waits, and then all terminals are idle too
pub every_message_ends : EveryMessageEnds
every_message_ends = message_ends
