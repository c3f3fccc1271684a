-- The public contracts of the crate that say of no stream allow one outcome alone: those of a
-- window. Of a turn and of its loop see `docs/THEOREMS.md`. Assumes nothing.
use mathlib.Core.List.{List}
use Prim.Native.Nat.{ℕ}
use Rattle.rules.proofs.Determined.{Determined, DeterminedAs, same}
use Rattle.stream.proofs.window.Window.empty.Kinds as empty_kinds
use Rattle.stream.proofs.window.Window.empty.Reads as empty_reads
use Rattle.stream.proofs.window.Window.bytes.Kinds as bytes_kinds
use Rattle.stream.proofs.window.Window.bytes.Reads as bytes_reads
use Rattle.stream.proofs.window.Window.has_ended.Kinds as has_ended_kinds
use Rattle.stream.proofs.window.Window.has_ended.Reads as has_ended_reads

pub empty : Determined 0 empty_kinds.ps empty_kinds.r empty_reads.Post
empty κs arguments result result' exit exit' = same

pub bytes :
    DeterminedAs 1 bytes_kinds.ps bytes_kinds.r bytes_reads.Post (List ℕ)
    (λ κs result exit. result.now)
bytes κs arguments result result' exit exit' told told' = same told.0 told'.0

pub has_ended : Determined 1 has_ended_kinds.ps has_ended_kinds.r has_ended_reads.Post
has_ended κs arguments result result' exit exit' = same
