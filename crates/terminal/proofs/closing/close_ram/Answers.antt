-- `terminal::closing::close_ram` meets its contract. Assumes nothing.
use Rattle.terminal.specs.Closing.{closed_ram}
use borrow.Author.Tests.{not-true, not-false}
use Rattle.terminal.proofs.closing.close_ram.Goals as goal

pub returns-then-not-asked : goal.returns-then-not-asked
unfolding closed_ram
returns-then-not-asked c = rw (not-true c.args.asked.block c.if-not-asked.true)

pub returns-then-message : goal.returns-then-message
unfolding closed_ram
returns-then-message c =
    rw (
      not-false c.args.asked.block c.if-not-asked.false,
      c.if-message.true,
      ← c.ticks-ticks.ensures,
    ) c.write_service.ensures

pub returns : goal.returns
unfolding closed_ram
returns c =
    rw (
      not-false c.args.asked.block c.if-not-asked.false,
      c.if-message.false,
      ← c.ticks-ticks.ensures,
      ← c.write_service.ensures,
    ) c.write_link.ensures
