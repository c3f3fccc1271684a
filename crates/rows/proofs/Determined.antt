-- The crate's public contract allows one outcome alone: one answer, and one content of every cell
-- that was lent. Assumes nothing.
use Rattle.rules.proofs.Determined.{DeterminedAs, same}
use Rattle.rows.specs.Row.{RowLeft, row_left}
use Rattle.rows.proofs.Row.take.Kinds as take_kinds
use Rattle.rows.proofs.Row.take.Reads as take_reads

pub take :
    DeterminedAs 2 take_kinds.ps take_kinds.r take_reads.Post RowLeft
    (λ κs result exit. row_left result exit.1.0.now)
take κs arguments result result' exit exit' = same
