-- `tray_cells::state::put_blocks` meets its contract: the blocks before the index are put.
-- Assumes nothing.
use Rattle.shown.specs.Text.{Fits}
use Rattle.tray_cells.specs.State.{blocks_from, each_block}
use Rattle.tray_cells.proofs.state.put_blocks.Given as goal

abbrev pub invariant-loop-index : goal.invariant-loop-index
invariant-loop-index l =
    Fits l.initial.page (each_block (blocks_from l.queue.places l.queue.ring.start l.index)) l.page
