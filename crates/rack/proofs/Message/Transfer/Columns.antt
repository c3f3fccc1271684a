-- The row of two commands: both are given, the second asks for the reply, and the data stand behind
-- the first status. Assumes nothing.
use Rattle.std.proofs.Common.{Some}
use mathlib.Core.Path.{◌≡◌, refl, sym, subst}
use mathlib.Core.Bool.{Bool, true, not}
use mathlib.Core.List.{List}
use Prim.Native.Nat.{ℕ}
use Rattle.bus.specs.Command.{words_of}
use Rattle.terminal.specs.State.{Card}
use Rattle.formats.specs.declared.row.Row.{Row}
use Rattle.formats.specs.declared.row.Row.TheVariants.{Between}
use Rattle.formats.specs.Row.{columns, format_of, data_cell}
use Rattle.exchange.specs.declared.order.Order.{Order}
use Rattle.exchange.specs.Order.{asking_in, format_for}
use Rattle.rack.specs.Bus.{second_given}
use Rattle.rack.specs.Asked.{
  taken_of,
  taken,
  Addressed,
  AllAddressed,
  FitTransfer,
  FitOrder,
}

pub record TwoCommands (order : Order) : Type 0 where
  pub format : format_for order
      ≡ columns 2 0 true (words_of order.second) (not order.broadcast)
  pub asks : asking_in order ≡ order.second
  pub at_3 : data_cell order.row ≡ 3
  pub second : second_given order.row order.second ≡ Some order.second
  pub takes : (terminal : Card)
      → taken order terminal ≡ taken_of Between order.first order.second terminal
  pub fit : FitOrder order → FitTransfer order.first order.second
  pub addressed : (terminals : List Card)
      → AllAddressed order.row order.first order.second terminals
      → Addressed order.first terminals × Addressed order.second terminals

module _ (broadcast : Bool) (first second : ℕ) where
  abbrev order_by : Row → Order
  order_by row = record { row = row; broadcast = broadcast; first = first; second = second }

  between : TwoCommands (order_by Between)
  unfolding format_for asking_in format_of
  between =
      record {
        format = refl;
        asks = refl;
        at_3 = refl;
        second = refl;
        takes = λ terminal. refl;
        fit = λ fit. fit.row;
        addressed = λ terminals both. both;
      }

pub two_commands : (order : Order) → order.row ≡ Between → TwoCommands order
two_commands order is =
    subst (λ (row : Row). TwoCommands
    (order_by order.broadcast order.first order.second row))
    (sym is) (between order.broadcast order.first order.second)
