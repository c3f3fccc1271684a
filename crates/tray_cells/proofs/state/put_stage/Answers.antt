-- `tray_cells::state::put_stage` meets its contract, by its cases. Assumes nothing.
use Rattle.std.proofs.Common.{rules}
use Rattle.tray_cells.proofs.StateLaws.{stage_data, stage_second, stage_awaiting, stage_skipping}
use Rattle.tray_cells.proofs.state.put_stage.Goals as goal

pub returns-in-Data : goal.returns-in-Data
returns-in-Data c = search (rules, stage_data)

pub returns-in-SecondCommand : goal.returns-in-SecondCommand
returns-in-SecondCommand c = search (rules, stage_second)

pub returns-in-AwaitingStatus : goal.returns-in-AwaitingStatus
returns-in-AwaitingStatus c = search (rules, stage_awaiting)

pub returns-in-Skipping : goal.returns-in-Skipping
returns-in-Skipping c = search (rules, stage_skipping)
