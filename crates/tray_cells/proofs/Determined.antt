-- The public contract of the crate allows one outcome alone: one next place, and one content of
-- every byte of the buffer. Assumes nothing.
use Rattle.rules.proofs.Determined.{DeterminedAs, same}
use Rattle.lines.specs.Page.{on}
use Rattle.lines.specs.Written.{Put}
use Rattle.tray_cells.proofs.state.put_state.Kinds as put_state_kinds
use Rattle.tray_cells.proofs.state.put_state.Reads as put_state_reads

pub put_state :
    DeterminedAs 3 put_state_kinds.ps put_state_kinds.r put_state_reads.Post Put
    (λ κs result exit. on exit.0.now)
put_state κs arguments result result' exit exit' is is' = same is.is_fitted is'.is_fitted
