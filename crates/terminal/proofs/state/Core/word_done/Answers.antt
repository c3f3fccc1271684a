-- `terminal::state::Core::word_done` meets its contract, act by act. Assumes nothing.
use Rattle.terminal.specs.Opening.{opening}
use Rattle.terminal.specs.WordStep.{word_done}
use Rattle.terminal.proofs.state.Core.word_done.Goals as goal

pub returns-in-Ignore : goal.returns-in-Ignore
unfolding word_done
returns-in-Ignore c = rw c.in-Ignore.is

pub returns-in-Store : goal.returns-in-Store
unfolding word_done
returns-in-Store c = rw (c.in-Store.is, c.go_on.ensures, c.write_cell.ensures)

pub returns-in-Check : goal.returns-in-Check
unfolding word_done
returns-in-Check c = rw (c.in-Check.is, c.go_on-in-Check.ensures)

pub returns-in-TakeSecond : goal.returns-in-TakeSecond
unfolding word_done
returns-in-TakeSecond c = rw (c.in-TakeSecond.is, c.go_on-in-TakeSecond.ensures)

pub returns-in-TakeStatus : goal.returns-in-TakeStatus
unfolding word_done
returns-in-TakeStatus c = rw (c.in-TakeStatus.is, c.go_on-in-TakeStatus.ensures)

pub returns-in-Fault : goal.returns-in-Fault
unfolding word_done
returns-in-Fault c = rw (c.in-Fault.is, c.close_by_fault.ensures)

pub returns-in-Supersede : goal.returns-in-Supersede
unfolding opening word_done
returns-in-Supersede c =
    rw (c.in-Supersede.is, c.«open».ensures, ← c.close_by_fault-in-Supersede.ensures)

pub returns-in-Drop : goal.returns-in-Drop
unfolding opening word_done
returns-in-Drop c = rw (c.in-Drop.is, c.open-in-Drop.ensures)
