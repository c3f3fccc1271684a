-- `exchange::state::Exchange::on_word`: no word of an answer stands above the highest cell, so the
-- number of each can be counted. Assumes nothing.
use Rattle.std.proofs.Common.{arith, ap, leb-false}
use Rattle.formats.specs.Row.{last_cell}
use Rattle.exchange.proofs.OrderLaws.{last_at_most}
use Rattle.exchange.proofs.state.Exchange.on_word.Goals as goal

pub overflow_add-reply : goal.overflow_add-reply
overflow_add-reply c =
    omega (arith, last_at_most c.args.order, ap last_cell c.format-format.ensures)

pub data_heard-requires : goal.data_heard-requires
data_heard-requires c = λ due.
    omega (
      arith,
      last_at_most c.args.order,
      ap last_cell c.format-format.ensures,
      leb-false c.format-format.result.reply c.args.self.taken due,
    )

pub overflow_add-reply-in-AwaitingLast : goal.overflow_add-reply-in-AwaitingLast
overflow_add-reply-in-AwaitingLast c =
    omega (arith, last_at_most c.args.order, ap last_cell c.format-format.ensures)
