-- `terminal::state::Core::silence_done` meets its contract, act by act. Assumes nothing.
use Rattle.terminal.specs.SilenceStep.{silence_done}
use Rattle.terminal.proofs.state.Core.silence_done.Goals as goal

pub returns-in-Ignore : goal.returns-in-Ignore
unfolding silence_done
returns-in-Ignore c = rw c.in-Ignore.is

pub returns-in-AwaitStatus : goal.returns-in-AwaitStatus
unfolding silence_done
returns-in-AwaitStatus c = rw (c.in-AwaitStatus.is, c.go_on.ensures)

pub returns-in-Fault : goal.returns-in-Fault
unfolding silence_done
returns-in-Fault c = rw (c.in-Fault.is, c.close_by_fault.ensures)

pub returns-in-End : goal.returns-in-End
unfolding silence_done
returns-in-End c = rw (c.in-End.is, c.reply-reply.ensures, c.close_at_end.ensures)
