-- The contract of `weigh` allows one outcome alone. Assumes nothing.
use Rattle.rules.proofs.Determined.{Determined, same}
use Rattle.bits.proofs.weigh.Kinds as weigh_kinds
use Rattle.bits.proofs.weigh.Reads as weigh_reads

pub weigh : Determined 0 weigh_kinds.ps weigh_kinds.r weigh_reads.Post
weigh κs arguments result result' exit exit' one other = same one.exactly other.exactly
