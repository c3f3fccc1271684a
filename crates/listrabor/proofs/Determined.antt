-- Each public contract of the crate allows one outcome alone: one number, and one content of every
-- cell and byte that was lent. Assumes nothing.
use Rattle.rules.proofs.Determined.{Determined, DeterminedAs, same}
use Rattle.refusals.proofs.NumberLaws.{same_refusal}
use Rattle.listrabor.specs.Lent.{Lent, lent}
use Rattle.listrabor.proofs.listrabor_room.Kinds as room_kinds
use Rattle.listrabor.proofs.listrabor_room.Reads as room_reads
use Rattle.listrabor.proofs.listrabor_refusal.Kinds as refusal_kinds
use Rattle.listrabor.proofs.listrabor_refusal.Reads as refusal_reads
use Rattle.listrabor.proofs.listrabor_run.Kinds as run_kinds
use Rattle.listrabor.proofs.listrabor_run.Reads as run_reads

pub room : Determined 0 room_kinds.ps room_kinds.r room_reads.Post
room κs arguments result result' exit exit' = same

pub refusal : Determined 0 refusal_kinds.ps refusal_kinds.r refusal_reads.Post
refusal κs arguments result result' exit exit' one other =
    same_refusal result result' (same one other)

pub run :
    DeterminedAs 3 run_kinds.ps run_kinds.r run_reads.Post Lent
    (λ κs result exit. lent result exit.1.0.now exit.1.1.0.now)
run κs arguments result result' exit exit' = same
