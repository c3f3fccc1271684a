-- `actions::Terminal::read_queue` meets its contract: refused, or read. Assumes nothing.
use Rattle.terminal.specs.Machine.{step, read_queue_step}
use Rattle.actions.specs.Actions.{read_queue_action}
use Rattle.actions.proofs.Terminal.read_queue.Goals as goal

pub returns-then-not-is_fit : goal.returns-then-not-is_fit
unfolding read_queue_action
returns-then-not-is_fit c = rw (← c.is_fit.ensures, c.if-not-is_fit.true)

pub returns : goal.returns
unfolding read_queue_action read_queue_step step
returns c =
    rw (
      ← c.is_fit.ensures,
      c.if-not-is_fit.false,
      c.read.ensures.word,
      c.read.ensures.left,
    )
