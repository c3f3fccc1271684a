-- The contract of the conversion allows one outcome alone. Assumes nothing.
use Rattle.rules.proofs.Determined.{Determined, same}
use Rattle.refusals.proofs.U8FromRefusal.from.Kinds as from_kinds
use Rattle.refusals.proofs.U8FromRefusal.from.Reads as from_reads

pub from : Determined 0 from_kinds.ps from_kinds.r from_reads.Post
from κs arguments result result' exit exit' = same
