-- Each public contract of the crate allows one outcome alone. Assumes nothing.
use Rattle.rules.proofs.Determined.{Determined, same}
use Rattle.formats.proofs.row.Row.format.Kinds as format_kinds
use Rattle.formats.proofs.row.Row.format.Reads as format_reads
use Rattle.formats.proofs.code.coded_by.Kinds as coded_by_kinds
use Rattle.formats.proofs.code.coded_by.Reads as coded_by_reads

pub format : Determined 0 format_kinds.ps format_kinds.r format_reads.Post
format κs arguments result result' exit exit' = same

pub coded_by : Determined 0 coded_by_kinds.ps coded_by_kinds.r coded_by_reads.Post
coded_by κs arguments result result' exit exit' = same
