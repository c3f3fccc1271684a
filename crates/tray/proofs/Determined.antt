-- Each public contract of the crate allows one outcome alone: one run, and one content of every
-- cell and byte that was lent. Assumes nothing.
use mathlib.Core.List.{[]}
use Rattle.rules.proofs.Determined.{Determined, DeterminedAs, same}
use Rattle.lines.specs.Page.{on}
use Rattle.pieces.specs.AsCoded.Runner.{FieldLeft, field_left}
use Rattle.tray.specs.Run.{Tray}
use Rattle.tray.specs.AsCoded.Held.{tray_of}
use Rattle.tray.proofs.run.Tray.at_start.Kinds as at_start_kinds
use Rattle.tray.proofs.run.Tray.at_start.Reads as at_start_reads
use Rattle.tray.proofs.runner.TrayRunner.fields.Kinds as fields_kinds
use Rattle.tray.proofs.runner.TrayRunner.fields.Reads as fields_reads
use Rattle.tray.proofs.runner.TrayRunner.offset.Kinds as offset_kinds
use Rattle.tray.proofs.runner.TrayRunner.offset.Reads as offset_reads
use Rattle.tray.proofs.runner.TrayRunner.take_field.Kinds as take_field_kinds
use Rattle.tray.proofs.runner.TrayRunner.take_field.Reads as take_field_reads

pub at_start : Determined 0 at_start_kinds.ps at_start_kinds.r at_start_reads.Post
at_start κs arguments result result' exit exit' = same

-- ---- as a runner

pub fields : Determined 1 fields_kinds.ps fields_kinds.r fields_reads.Post
fields κs arguments result result' exit exit' is is' = same (is []) (is' [])

pub offset : Determined 1 offset_kinds.ps offset_kinds.r offset_reads.Post
offset κs arguments result result' exit exit' is is' = same (is []) (is' [])

pub take_field :
    DeterminedAs 5 take_field_kinds.ps take_field_kinds.r take_field_reads.Post (FieldLeft Tray)
    (λ κs result exit. field_left result (tray_of exit.0.now exit.1.0.now) (on exit.1.1.1.1.0.now))
take_field κs arguments result result' exit exit' is is' = same is.is_wanted is'.is_wanted
