-- Each public contract of the crate allows one outcome alone: one core, one answer, and one content
-- of the queue and every cell that was lent. Assumes nothing.
use Rattle.rules.proofs.Determined.{Determined, DeterminedAs, same}
use Rattle.terminal.specs.declared.state.Core.{Core}
use Rattle.terminal.specs.State.{Card, card}
use Rattle.terminal.specs.Event.{replied, Shown, shown}
use Rattle.terminal.proofs.state.Core.at_setup.Kinds as core_setup_kinds
use Rattle.terminal.proofs.state.Core.at_setup.Reads as core_setup_reads
use Rattle.terminal.proofs.state.Core.move_table.Kinds as core_table_kinds
use Rattle.terminal.proofs.state.Core.move_table.Reads as core_table_reads
use Rattle.terminal.proofs.state.Core.set_flags.Kinds as core_flags_kinds
use Rattle.terminal.proofs.state.Core.set_flags.Reads as core_flags_reads
use Rattle.terminal.proofs.state.Core.open.Kinds as core_open_kinds
use Rattle.terminal.proofs.state.Core.open.Reads as core_open_reads
use Rattle.terminal.proofs.state.Core.reply.Kinds as core_reply_kinds
use Rattle.terminal.proofs.state.Core.reply.Reads as core_reply_reads
use Rattle.terminal.proofs.state.Core.close_by_fault.Kinds as close_by_fault_kinds
use Rattle.terminal.proofs.state.Core.close_by_fault.Reads as close_by_fault_reads
use Rattle.terminal.proofs.state.Core.close_at_end.Kinds as close_at_end_kinds
use Rattle.terminal.proofs.state.Core.close_at_end.Reads as close_at_end_reads
use Rattle.terminal.proofs.state.Core.after_row.Kinds as after_row_kinds
use Rattle.terminal.proofs.state.Core.after_row.Reads as after_row_reads
use Rattle.terminal.proofs.state.Core.word.Kinds as core_word_kinds
use Rattle.terminal.proofs.state.Core.word.Reads as core_word_reads
use Rattle.terminal.proofs.state.Core.silence.Kinds as core_silence_kinds
use Rattle.terminal.proofs.state.Core.silence.Reads as core_silence_reads

pub core_setup : Determined 0 core_setup_kinds.ps core_setup_kinds.r core_setup_reads.Post
core_setup κs arguments result result' exit exit' = same

pub core_table :
    DeterminedAs 1 core_table_kinds.ps core_table_kinds.r core_table_reads.Post Core
    (λ κs result exit. exit.0.now)
core_table κs arguments result result' exit exit' = same

pub core_flags :
    DeterminedAs 1 core_flags_kinds.ps core_flags_kinds.r core_flags_reads.Post Core
    (λ κs result exit. exit.0.now)
core_flags κs arguments result result' exit exit' = same

pub core_open :
    DeterminedAs 2 core_open_kinds.ps core_open_kinds.r core_open_reads.Post Core
    (λ κs result exit. exit.0.now)
core_open κs arguments result result' exit exit' = same

pub core_reply : Determined 1 core_reply_kinds.ps core_reply_kinds.r core_reply_reads.Post
core_reply κs arguments result result' exit exit' = same

pub close_by_fault :
    DeterminedAs 3 close_by_fault_kinds.ps close_by_fault_kinds.r close_by_fault_reads.Post Card
    (λ κs result exit. card exit.0.now exit.1.1.0.now exit.1.1.1.0.now)
close_by_fault κs arguments result result' exit exit' = same

pub close_at_end :
    DeterminedAs 3 close_at_end_kinds.ps close_at_end_kinds.r close_at_end_reads.Post Card
    (λ κs result exit. card exit.0.now exit.1.0.now exit.1.1.0.now)
close_at_end κs arguments result result' exit exit' = same

pub after_row :
    DeterminedAs 1 after_row_kinds.ps after_row_kinds.r after_row_reads.Post Core
    (λ κs result exit. exit.0.now)
after_row κs arguments result result' exit exit' = same

pub core_word :
    DeterminedAs 3 core_word_kinds.ps core_word_kinds.r core_word_reads.Post Card
    (λ κs result exit. card exit.0.now exit.1.0.now exit.1.1.0.now)
core_word κs arguments result result' exit exit' = same

pub core_silence :
    DeterminedAs 3 core_silence_kinds.ps core_silence_kinds.r core_silence_reads.Post Shown
    (λ κs result exit. shown (card exit.0.now exit.1.0.now exit.1.1.0.now) (replied result))
core_silence κs arguments result result' exit exit' = same
