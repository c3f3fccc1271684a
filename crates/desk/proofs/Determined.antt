-- Each public contract of the crate allows one outcome alone: one reading, one run, and one content
-- of every cell and byte that was lent. Assumes nothing.
use mathlib.Core.List.{[]}
use Rattle.rules.proofs.Determined.{Determined, DeterminedAs, same}
use Rattle.lines.specs.Page.{on}
use Rattle.pieces.specs.AsCoded.Runner.{FieldLeft, field_left}
use Rattle.desk.specs.Run.{Run}
use Rattle.desk.specs.AsCoded.Held.{run_of}
use Rattle.desk.proofs.AnswerLaws.{same_reading}
use Rattle.desk.proofs.reading.read_field.Kinds as read_field_kinds
use Rattle.desk.proofs.reading.read_field.Reads as read_field_reads
use Rattle.desk.proofs.run.Run.at_start.Kinds as at_start_kinds
use Rattle.desk.proofs.run.Run.at_start.Reads as at_start_reads
use Rattle.desk.proofs.runner.RunRunner.fields.Kinds as fields_kinds
use Rattle.desk.proofs.runner.RunRunner.fields.Reads as fields_reads
use Rattle.desk.proofs.runner.RunRunner.offset.Kinds as offset_kinds
use Rattle.desk.proofs.runner.RunRunner.offset.Reads as offset_reads
use Rattle.desk.proofs.runner.RunRunner.take_field.Kinds as take_field_kinds
use Rattle.desk.proofs.runner.RunRunner.take_field.Reads as take_field_reads

pub read_field : Determined 1 read_field_kinds.ps read_field_kinds.r read_field_reads.Post
read_field κs arguments result result' exit exit' = λ is is'.
    same_reading result result' (same is is')

pub at_start : Determined 0 at_start_kinds.ps at_start_kinds.r at_start_reads.Post
at_start κs arguments result result' exit exit' = same

-- ---- as a runner

pub fields : Determined 1 fields_kinds.ps fields_kinds.r fields_reads.Post
fields κs arguments result result' exit exit' is is' = same (is []) (is' [])

pub offset : Determined 1 offset_kinds.ps offset_kinds.r offset_reads.Post
offset κs arguments result result' exit exit' is is' = same (is []) (is' [])

pub take_field :
    DeterminedAs 5 take_field_kinds.ps take_field_kinds.r take_field_reads.Post (FieldLeft Run)
    (λ κs result exit. field_left result (run_of exit.0.now exit.1.0.now) (on exit.1.1.1.1.0.now))
take_field κs arguments result result' exit exit' is is' = same is.is_wanted is'.is_wanted
