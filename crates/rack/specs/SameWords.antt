-- The same words at both ends: what a message of fit commands leaves on a sound bus, and a run of
-- them. Definitions only; proved in `proofs/Theorems`. Assumes nothing.
use Rattle.std.specs.Prelude.{◌≡◌, List, ℕ, zero, suc, ◌+◌, ◌<◌, length, Option, Some, None}
use Rattle.card.specs.Memory.{the_cell, cell_at}
use Rattle.terminal.specs.State.{Card}
use Rattle.formats.specs.Row.{data_cell, data_words}
use Rattle.exchange.specs.declared.order.Order.{Order}
use Rattle.exchange.specs.Order.{format_for}
use Rattle.controller.specs.declared.state.Came.{Came}
use Rattle.controller.specs.Control.{block_in}
use Rattle.controller.specs.State.{Desk}
use Rattle.controller.specs.Start.{starting}
use Rattle.controller.specs.Actions.{start_action}
use Rattle.rack.specs.Hearing.{Stamps}
use Rattle.rack.specs.Bus.{Rack, message}
use Rattle.rack.specs.Terminals.{EachOf}
use Rattle.rack.specs.Asked.{IsIdle, opened_for, taken, Asked}
use Rattle.rack.specs.Changed.{ChangesOnly}

-- the data words of an order are the same at both ends: in the controller's block, and in the block
-- fixed at the opening of the command that a terminal takes
abbrev pub SameWords : Order → Desk → List ℕ → ℕ → Card → Card → Type 0
SameWords order desk ram command old new =
    (cell : ℕ) → cell < data_words (format_for order)
    → cell_at new.ram (opened_for command old).block (the_cell cell)
    ≡ cell_at ram (block_in desk.state.control) (the_cell (data_cell order.row + cell))

-- a terminal that takes a command is idle again with the same words, and no other cell has changed;
-- any other terminal is as before
abbrev pub Served : Order → Desk → List ℕ → Option ℕ → Card → Card → Type 0
Served order desk ram None old new = new ≡ old
Served order desk ram (Some command) old new =
    IsIdle new × SameWords order desk ram command old new × ChangesOnly command old new

-- a result with this code
abbrev pub HasCode : ℕ → Option Came → Type 0
HasCode code None = ⊥
HasCode code (Some came) = came.code ≡ code

pub record Promised (order : Order) (old new : Rack) : Type 0 where
  pub over : new.desk.state.message ≡ None
  pub code : HasCode 0 new.desk.state.result
  pub long : length new.desk.ram ≡ length old.desk.ram
  pub terminals : EachOf (λ before after.
      Served order old.desk new.desk.ram (taken order before) before after)
      old.terminals new.terminals

-- the theorem, for any number of terminals and at any stamps
abbrev pub BothEndsHoldTheSame : Type 0
BothEndsHoldTheSame =
    (order : Order) (clock : ℕ → Stamps) (old : Rack)
    → Asked order old → Promised order old (message clock old)

-- ---- a run

-- asked of each message as it starts
unfoldable pub AskedEach : ℕ → (ℕ → ℕ → Stamps) → Rack → Type 0
AskedEach zero clocks old = Unit {0}
AskedEach (suc more) clocks old =
    ((order : Order) → start_action old.desk ≡ starting order old.desk → Asked order old)
    × AskedEach more clocks (message (clocks more) old)

-- promised of each; where nothing is given, nothing changes
unfoldable pub PromisedEach : ℕ → (ℕ → ℕ → Stamps) → Rack → Type 0
PromisedEach zero clocks old = Unit {0}
PromisedEach (suc more) clocks old =
    ((order : Order) → start_action old.desk ≡ starting order old.desk
    → Promised order old (message (clocks more) old))
    × ((start_action old.desk).given ≡ None → message (clocks more) old ≡ old)
    × PromisedEach more clocks (message (clocks more) old)
