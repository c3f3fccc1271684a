-- `terminal::state::Core::silence` meets its contract, with a message open and without. Assumes
-- nothing.
use Rattle.std.proofs.Common.{None, Some}
use Rattle.terminal.specs.State.{card}
use Rattle.terminal.proofs.StepLaws.{silence_meets}
use Rattle.terminal.proofs.state.Core.silence.Goals as goal

pub returns-in_default : goal.returns-in_default
returns-in_default c =
    let old = card c.args.self.now c.args.queue.now c.args.ram.now in
    rw (silence_meets None old c.in_default.is c.args.line c.args.time)

pub returns : goal.returns
returns c =
    let old = card c.args.self.now c.args.queue.now c.args.ram.now in
    rw (
      silence_meets (Some c.in-Some.message) old c.in-Some.is c.args.line c.args.time,
      ← c.asks-asked.ensures,
      ← c.on_silence-act.ensures,
    ) c.silence_done.ensures
