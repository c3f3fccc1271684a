-- What an order asks for. Definitions only. Assumes nothing.
use Rattle.std.specs.Prelude.{ℕ}
use Rattle.bus.specs.Command.{address_of, words_of}
use Rattle.formats.specs.declared.row.Row.{Row}
use Rattle.formats.specs.declared.row.Row.TheVariants.{
  ToTerminal,
  FromTerminal,
  Between,
  ModeAlone,
  ModeWithWord,
  ModeForWord,
}
use Rattle.formats.specs.declared.row.Format.{Format}
use Rattle.formats.specs.Row.{format_of}
use Rattle.exchange.specs.declared.order.Order.{Order}

-- the command that asks for the reply: between two terminals the second, the transmitter's
abbrev pub asking_by : Row → ℕ → ℕ → ℕ
asking_by ToTerminal first second = first
asking_by FromTerminal first second = first
asking_by Between first second = second
asking_by ModeAlone first second = first
asking_by ModeWithWord first second = first
asking_by ModeForWord first second = first

unfoldable pub asking_in : Order → ℕ
asking_in order = asking_by order.row order.first order.second

-- the row of the table, by the count of that command
unfoldable pub format_for : Order → Format
format_for order = format_of order.row order.broadcast (words_of (asking_in order))

-- the station whose status is due, and the one whose last status is
abbrev pub awaited : Order → ℕ
awaited order = address_of (asking_in order)

abbrev pub awaited_last : Order → ℕ
awaited_last order = address_of order.first
