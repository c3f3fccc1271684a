-- Each public contract of the crate allows one outcome alone. Assumes nothing.
use Rattle.rules.proofs.Determined.{Determined, same}
use Rattle.exchange.proofs.order.Order.format.Kinds as format_kinds
use Rattle.exchange.proofs.order.Order.format.Reads as format_reads
use Rattle.exchange.proofs.state.Exchange.at_first.Kinds as at_first_kinds
use Rattle.exchange.proofs.state.Exchange.at_first.Reads as at_first_reads
use Rattle.exchange.proofs.state.Exchange.on_word.Kinds as on_word_kinds
use Rattle.exchange.proofs.state.Exchange.on_word.Reads as on_word_reads
use Rattle.exchange.proofs.state.Exchange.on_silence.Kinds as on_silence_kinds
use Rattle.exchange.proofs.state.Exchange.on_silence.Reads as on_silence_reads

pub format : Determined 0 format_kinds.ps format_kinds.r format_reads.Post
format κs arguments result result' exit exit' = same

pub at_first : Determined 0 at_first_kinds.ps at_first_kinds.r at_first_reads.Post
at_first κs arguments result result' exit exit' = same

pub on_word : Determined 0 on_word_kinds.ps on_word_kinds.r on_word_reads.Post
on_word κs arguments result result' exit exit' = same

pub on_silence : Determined 0 on_silence_kinds.ps on_silence_kinds.r on_silence_reads.Post
on_silence κs arguments result result' exit exit' = same
