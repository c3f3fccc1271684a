-- `controller_cells::state::put_stage` meets its contract, by its cases. Assumes nothing.
use Rattle.std.proofs.Common.{rules}
use Rattle.controller_cells.proofs.StateLaws.{stage_awaiting, stage_reply, stage_last, stage_ended}
use Rattle.controller_cells.proofs.state.put_stage.Goals as goal

pub returns-in-Awaiting : goal.returns-in-Awaiting
returns-in-Awaiting c = search (rules, stage_awaiting)

pub returns-in-Reply : goal.returns-in-Reply
returns-in-Reply c = search (rules, stage_reply)

pub returns-in-AwaitingLast : goal.returns-in-AwaitingLast
returns-in-AwaitingLast c = search (rules, stage_last)

pub returns-in-Ended : goal.returns-in-Ended
returns-in-Ended c = search (rules, stage_ended)
