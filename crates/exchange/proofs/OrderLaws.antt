-- The bounds of what an order asks for. Assumes nothing.
use Prim.Native.Nat.{◌≤◌}
use Rattle.bus.specs.Command.{words_of}
use Rattle.bus.proofs.CommandLaws.{words_at_most}
use Rattle.formats.specs.Row.{last_cell, highest_cell}
use Rattle.formats.proofs.RowLaws as row
use Rattle.exchange.specs.declared.order.Order.{Order}
use Rattle.exchange.specs.Order.{asking_in, format_for}

module _ (order : Order) where
  pub given_at_most : (format_for order).given ≤ 33
  unfolding format_for
  given_at_most =
      row.given_at_most order.row order.broadcast (words_of (asking_in order))
      (words_at_most (asking_in order))

  pub reply_at_most : (format_for order).reply ≤ 32
  unfolding format_for
  reply_at_most =
      row.reply_at_most order.row order.broadcast (words_of (asking_in order))
      (words_at_most (asking_in order))

  -- no word stands above the highest cell
  pub last_at_most : last_cell (format_for order) ≤ highest_cell
  unfolding format_for
  last_at_most =
      row.last_at_most order.row order.broadcast (words_of (asking_in order))
      (words_at_most (asking_in order))
