-- The rows of one command: one word is given besides the data, no last status is due, and the data
-- stand behind the command or behind the status. Assumes nothing.
use Rattle.std.proofs.Common.{None}
use mathlib.Core.Path.{◌≡◌, refl}
use mathlib.Core.Logic.{◌≢◌}
use mathlib.Core.Bool.{Bool, true, false}
use mathlib.Core.List.{List}
use Prim.Native.Nat.{ℕ, ◌+◌}
use Rattle.terminal.specs.State.{Card}
use Rattle.formats.specs.declared.row.Row.{Row}
use Rattle.formats.specs.declared.row.Row.TheVariants.{
  ToTerminal,
  FromTerminal,
  Between,
  ModeAlone,
  ModeWithWord,
  ModeForWord,
}
use Rattle.formats.specs.Row.{format_of, data_cell, data_words}
use Rattle.exchange.specs.declared.order.Order.{Order}
use Rattle.exchange.specs.Order.{asking_in, format_for}
use Rattle.rack.specs.Bus.{second_given}
use Rattle.rack.specs.Asked.{taken_alone, taken, Addressed, AllAddressed}

-- where the data words are
pub data Moves (order : Order) : Type 0 where
  nothing : data_words (format_for order) ≡ 0 → Moves order
  behind_command : (format_for order).reply ≡ 0 → data_cell order.row ≡ 1 → Moves order
  behind_status : (format_for order).behind ≡ 0 → data_cell order.row ≡ 2
      → (format_for order).status ≡ true → Moves order

pub record OneCommand (order : Order) : Type 0 where
  pub given : (format_for order).given ≡ 1 + (format_for order).behind
  pub last : (format_for order).last ≡ false
  pub asks : asking_in order ≡ order.first
  pub no_second : (value : ℕ) → second_given order.row value ≡ None
  pub takes : (terminal : Card) → taken order terminal ≡ taken_alone order.first terminal
  pub addressed : (terminals : List Card)
      → AllAddressed order.row order.first order.second terminals
      → Addressed order.first terminals
  pub moves : Moves order

module _ (broadcast : Bool) (first second : ℕ) where
  abbrev order_by : Row → Order
  order_by row = record { row = row; broadcast = broadcast; first = first; second = second }

  by_row : (row : Row) → row ≢ Between → OneCommand (order_by row)
  unfolding format_for asking_in format_of
  by_row ToTerminal other =
      record {
        given = refl;
        last = refl;
        asks = refl;
        no_second = λ value. refl;
        takes = λ terminal. refl;
        addressed = λ terminals is. is;
        moves = behind_command refl refl;
      }
  by_row FromTerminal other =
      record {
        given = refl;
        last = refl;
        asks = refl;
        no_second = λ value. refl;
        takes = λ terminal. refl;
        addressed = λ terminals is. is;
        moves = behind_status refl refl refl;
      }
  by_row Between other = absurd (other refl)
  by_row ModeAlone other =
      record {
        given = refl;
        last = refl;
        asks = refl;
        no_second = λ value. refl;
        takes = λ terminal. refl;
        addressed = λ terminals is. is;
        moves = nothing refl;
      }
  by_row ModeWithWord other =
      record {
        given = refl;
        last = refl;
        asks = refl;
        no_second = λ value. refl;
        takes = λ terminal. refl;
        addressed = λ terminals is. is;
        moves = behind_command refl refl;
      }
  by_row ModeForWord other =
      record {
        given = refl;
        last = refl;
        asks = refl;
        no_second = λ value. refl;
        takes = λ terminal. refl;
        addressed = λ terminals is. is;
        moves = behind_status refl refl refl;
      }

pub one_command : (order : Order) → order.row ≢ Between → OneCommand order
one_command order other =
    by_row order.broadcast order.first order.second order.row other
