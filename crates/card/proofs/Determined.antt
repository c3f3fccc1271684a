-- Each public contract of the crate allows one outcome alone: one result, and one content of every
-- cell that was lent. Assumes nothing.
use Rattle.std.proofs.Common.{◌≡◌, ℕ, List, Result, ap}
use Rattle.rules.proofs.Determined.{Determined, DeterminedAs, same}
use Rattle.refusals.specs.declared.Refusal.{Refusal}
use Rattle.refusals.specs.Number.{refused}
use Rattle.refusals.proofs.NumberLaws.{same_refusal, same_outcome}
use Rattle.card.specs.Host.{Wrote, wrote}
use Rattle.card.proofs.place.word_address.Kinds as word_address_kinds
use Rattle.card.proofs.place.word_address.Reads as word_address_reads
use Rattle.card.proofs.table.is_busy.Kinds as is_busy_kinds
use Rattle.card.proofs.table.is_busy.Reads as is_busy_reads
use Rattle.card.proofs.table.wants_queue.Kinds as wants_queue_kinds
use Rattle.card.proofs.table.wants_queue.Reads as wants_queue_reads
use Rattle.card.proofs.table.block_of.Kinds as block_of_kinds
use Rattle.card.proofs.table.block_of.Reads as block_of_reads
use Rattle.card.proofs.state.State.word.Kinds as state_word_kinds
use Rattle.card.proofs.state.State.word.Reads as state_word_reads
use Rattle.card.proofs.time.ticks.Kinds as ticks_kinds
use Rattle.card.proofs.time.ticks.Reads as ticks_reads
use Rattle.card.proofs.block.store.Kinds as store_kinds
use Rattle.card.proofs.block.store.Reads as store_reads
use Rattle.card.proofs.block.write_service.Kinds as block_service_kinds
use Rattle.card.proofs.block.write_service.Reads as block_service_reads
use Rattle.card.proofs.memory.read_cell.Kinds as read_cell_kinds
use Rattle.card.proofs.memory.read_cell.Reads as read_cell_reads
use Rattle.card.proofs.memory.write_cell.Kinds as write_cell_kinds
use Rattle.card.proofs.memory.write_cell.Reads as write_cell_reads
use Rattle.card.proofs.memory.write_service.Kinds as memory_service_kinds
use Rattle.card.proofs.memory.write_service.Reads as memory_service_reads
use Rattle.card.proofs.memory.write_link.Kinds as write_link_kinds
use Rattle.card.proofs.memory.write_link.Reads as write_link_reads
use Rattle.card.proofs.host.write_words.Kinds as write_words_kinds
use Rattle.card.proofs.host.write_words.Reads as write_words_reads
use Rattle.card.proofs.host.is_write.Kinds as is_write_kinds
use Rattle.card.proofs.host.is_write.Reads as is_write_reads
use Rattle.card.proofs.host.write.Kinds as host_write_kinds
use Rattle.card.proofs.host.write.Reads as host_write_reads
use Rattle.card.proofs.part.refusal.Kinds as part_refusal_kinds
use Rattle.card.proofs.part.refusal.Reads as part_refusal_reads
use Rattle.card.proofs.part.shown.Kinds as shown_kinds
use Rattle.card.proofs.part.shown.Reads as shown_reads
use Rattle.card.proofs.sent.refusal.Kinds as sent_refusal_kinds
use Rattle.card.proofs.sent.refusal.Reads as sent_refusal_reads
use Rattle.card.proofs.sent.part.Kinds as sent_part_kinds
use Rattle.card.proofs.sent.part.Reads as sent_part_reads

-- ---- numbers and words

pub word_address :
    Determined 0 word_address_kinds.ps word_address_kinds.r word_address_reads.Post
word_address κs arguments result result' exit exit' = same

pub is_busy : Determined 0 is_busy_kinds.ps is_busy_kinds.r is_busy_reads.Post
is_busy κs arguments result result' exit exit' = same

pub wants_queue : Determined 0 wants_queue_kinds.ps wants_queue_kinds.r wants_queue_reads.Post
wants_queue κs arguments result result' exit exit' = same

pub block_of : Determined 0 block_of_kinds.ps block_of_kinds.r block_of_reads.Post
block_of κs arguments result result' exit exit' = same

pub state_word : Determined 0 state_word_kinds.ps state_word_kinds.r state_word_reads.Post
state_word κs arguments result result' exit exit' = same

pub ticks : Determined 0 ticks_kinds.ps ticks_kinds.r ticks_reads.Post
ticks κs arguments result result' exit exit' = same

-- ---- memory: a caller sees every cell of what it lent

pub store :
    DeterminedAs 1 store_kinds.ps store_kinds.r store_reads.Post (List ℕ)
    (λ κs result exit. exit.0.now)
store κs arguments result result' exit exit' = same

pub block_service :
    DeterminedAs 1 block_service_kinds.ps block_service_kinds.r block_service_reads.Post (List ℕ)
    (λ κs result exit. exit.0.now)
block_service κs arguments result result' exit exit' = same

pub read_cell : Determined 1 read_cell_kinds.ps read_cell_kinds.r read_cell_reads.Post
read_cell κs arguments result result' exit exit' = same

pub write_cell :
    DeterminedAs 1 write_cell_kinds.ps write_cell_kinds.r write_cell_reads.Post (List ℕ)
    (λ κs result exit. exit.0.now)
write_cell κs arguments result result' exit exit' = same

pub memory_service :
    DeterminedAs 1 memory_service_kinds.ps memory_service_kinds.r memory_service_reads.Post (List ℕ)
    (λ κs result exit. exit.0.now)
memory_service κs arguments result result' exit exit' = same

pub write_link :
    DeterminedAs 1 write_link_kinds.ps write_link_kinds.r write_link_reads.Post (List ℕ)
    (λ κs result exit. exit.0.now)
write_link κs arguments result result' exit exit' = same

-- ---- the ways in and out

pub write_words :
    DeterminedAs 2 write_words_kinds.ps write_words_kinds.r write_words_reads.Post (List ℕ)
    (λ κs result exit. exit.0.now)
write_words κs arguments result result' exit exit' = same

pub is_write : Determined 0 is_write_kinds.ps is_write_kinds.r is_write_reads.Post
is_write κs arguments result result' exit exit' = same

pub host_write :
    DeterminedAs 2 host_write_kinds.ps host_write_kinds.r host_write_reads.Post
    (Result Unit Refusal × List ℕ)
    (λ κs result exit. (result, exit.0.now))
host_write κs arguments result result' exit exit' one other =
    let left : wrote (refused result) exit.0.now ≡ wrote (refused result') exit'.0.now =
    same one other in
    let outcome : result ≡ result' =
    same_outcome result result' (ap (λ (after : Wrote). after.number) left) in
    let ram : exit.0.now ≡ exit'.0.now = ap (λ (after : Wrote). after.ram) left in
    cc

pub part_refusal :
    Determined 1 part_refusal_kinds.ps part_refusal_kinds.r part_refusal_reads.Post
part_refusal κs arguments result result' exit exit' one other =
    same_refusal result result' (same one other)

pub shown :
    DeterminedAs 1 shown_kinds.ps shown_kinds.r shown_reads.Post (List ℕ)
    (λ κs result exit. result.now)
shown κs arguments result result' exit exit' = same

pub sent_refusal :
    Determined 1 sent_refusal_kinds.ps sent_refusal_kinds.r sent_refusal_reads.Post
sent_refusal κs arguments result result' exit exit' one other =
    same_refusal result result' (same one other)

pub sent_part :
    DeterminedAs 1 sent_part_kinds.ps sent_part_kinds.r sent_part_reads.Post (List ℕ)
    (λ κs result exit. result.now)
sent_part κs arguments result result' exit exit' = same
