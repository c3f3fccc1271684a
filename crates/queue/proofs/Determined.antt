-- Each public contract of the crate allows one outcome alone: one result, and one content of every
-- place that was lent. Assumes nothing.
use Prim.Native.Nat.{ℕ}
use Rattle.rules.proofs.Determined.{Determined, DeterminedAs, same}
use Rattle.queue.specs.declared.Queue.{Queue}
use Rattle.queue.proofs.Queue.empty.Kinds as empty_kinds
use Rattle.queue.proofs.Queue.empty.Reads as empty_reads
use Rattle.queue.proofs.Queue.join.Kinds as join_kinds
use Rattle.queue.proofs.Queue.join.Reads as join_reads
use Rattle.queue.proofs.Queue.read.Kinds as read_kinds
use Rattle.queue.proofs.Queue.read.Reads as read_reads
use Rattle.queue.proofs.Queue.is_fit.Kinds as is_fit_kinds
use Rattle.queue.proofs.Queue.is_fit.Reads as is_fit_reads

pub empty : Determined 0 empty_kinds.ps empty_kinds.r empty_reads.Post
empty κs arguments result result' exit exit' = same

pub join :
    DeterminedAs 1 join_kinds.ps join_kinds.r join_reads.Post Queue (λ κs result exit. exit.0.now)
join κs arguments result result' exit exit' = same

pub read :
    DeterminedAs 1 read_kinds.ps read_kinds.r read_reads.Post (ℕ × Queue)
    (λ κs result exit. (result, exit.0.now))
read κs arguments result result' exit exit' told told' =
    cc (told.0, told.1, told'.0, told'.1)

pub is_fit : Determined 1 is_fit_kinds.ps is_fit_kinds.r is_fit_reads.Post
is_fit κs arguments result result' exit exit' = same
