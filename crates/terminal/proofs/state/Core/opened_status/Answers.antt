-- `terminal::state::Core::opened_status` meets its contract. Assumes nothing.
use Rattle.terminal.specs.Opening.{opened_status}
use borrow.Author.Tests.{not-true, not-false}
use Rattle.terminal.proofs.state.Core.opened_status.Goals as goal

pub returns-then-not-asked : goal.returns-then-not-asked
unfolding opened_status
returns-then-not-asked c = rw (not-true c.args.asked.fresh c.if-not-asked.true)

pub returns : goal.returns
unfolding opened_status
returns c =
    rw (
      not-false c.args.asked.fresh c.if-not-asked.false,
      ← c.busy_at-busy.ensures,
      ← c.caught.ensures,
    ) c.word.ensures
