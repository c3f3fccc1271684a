-- `terminal::state::Core::reply` meets its contract. Assumes nothing.
use Rattle.terminal.specs.Closing.{reply_of}
use borrow.Author.Tests.{eq-eqb, ne_eqb}
use Rattle.terminal.proofs.state.Core.reply.Goals as goal

pub returns-then-not-replies : goal.returns-then-not-replies
unfolding reply_of
returns-then-not-replies c = rw (← c.replies.ensures, c.if-not-replies.true)

pub returns-then-asked : goal.returns-then-asked
unfolding reply_of
returns-then-asked c = rw (← c.replies.ensures, c.if-not-replies.false, c.if-asked.true)

pub returns-then-unless_busy-eq0 : goal.returns-then-unless_busy-eq0
unfolding reply_of
returns-then-unless_busy-eq0 c =
    rw (
      ← c.replies.ensures,
      c.if-not-replies.false,
      c.if-asked.false,
      ← c.unless_busy.ensures,
      eq-eqb c.unless_busy.result 0 c.if-unless_busy-eq0.true,
    )

pub returns : goal.returns
unfolding reply_of
returns c =
    rw (
      ← c.replies.ensures,
      c.if-not-replies.false,
      c.if-asked.false,
      ← c.unless_busy.ensures,
      ne_eqb c.unless_busy.result 0 c.if-unless_busy-eq0.false,
    )
