-- `terminal::state::Core::word` meets its contract, with a message open and without. Assumes
-- nothing.
use Rattle.terminal.specs.Opening.{opening}
use Rattle.std.proofs.Common.{None, Some}
use Rattle.terminal.specs.State.{card}
use Rattle.terminal.proofs.StepLaws.{word_meets}
use Rattle.terminal.proofs.state.Core.word.Goals as goal

pub returns-then-is_own : goal.returns-then-is_own
unfolding opening
returns-then-is_own c =
    let old = card c.args.self.now c.args.queue.now c.args.ram.now in
    rw (
      word_meets None old c.in_default.is c.args.word,
      ← c.is_own.ensures,
      c.if-is_own.true,
      c.«open».ensures,
    )

pub returns-else-is_own : goal.returns-else-is_own
returns-else-is_own c =
    let old = card c.args.self.now c.args.queue.now c.args.ram.now in
    rw (
      word_meets None old c.in_default.is c.args.word,
      ← c.is_own.ensures,
      c.if-is_own.false,
    )

pub returns : goal.returns
returns c =
    let old = card c.args.self.now c.args.queue.now c.args.ram.now in
    rw (
      word_meets (Some c.in-Some.message) old c.in-Some.is c.args.word,
      ← c.asks-asked.ensures,
      ← c.on_word-act.ensures,
    ) c.word_done.ensures
