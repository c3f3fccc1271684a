-- `tray_cells::state::put_blocks` meets its contract, by its cases. Assumes nothing.
use Rattle.std.proofs.Common.{rules}
use Rattle.tray_cells.proofs.StateLaws.{blocks_none, blocks_more}
use Rattle.tray_cells.proofs.state.put_blocks.Goals as goal

pub loop-index-init : goal.loop-index-init
loop-index-init c = search (rules, blocks_none)

pub loop-index-preserved : goal.loop-index-preserved
loop-index-preserved c = search (rules, blocks_more)
