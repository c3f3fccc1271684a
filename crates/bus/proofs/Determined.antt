-- Each public contract of the crate allows one outcome alone. Assumes nothing.
use Rattle.rules.proofs.Determined.{Determined, same}
use Rattle.bus.proofs.command.address.Kinds as address_kinds
use Rattle.bus.proofs.command.address.Reads as address_reads
use Rattle.bus.proofs.command.is_transmit.Kinds as is_transmit_kinds
use Rattle.bus.proofs.command.is_transmit.Reads as is_transmit_reads
use Rattle.bus.proofs.command.subaddress.Kinds as subaddress_kinds
use Rattle.bus.proofs.command.subaddress.Reads as subaddress_reads
use Rattle.bus.proofs.command.mode_code.Kinds as mode_code_kinds
use Rattle.bus.proofs.command.mode_code.Reads as mode_code_reads
use Rattle.bus.proofs.command.words.Kinds as words_kinds
use Rattle.bus.proofs.command.words.Reads as words_reads
use Rattle.bus.proofs.command.is_broadcast.Kinds as is_broadcast_kinds
use Rattle.bus.proofs.command.is_broadcast.Reads as is_broadcast_reads
use Rattle.bus.proofs.command.is_mode.Kinds as is_mode_kinds
use Rattle.bus.proofs.command.is_mode.Reads as is_mode_reads
use Rattle.bus.proofs.mode.mode_of.Kinds as mode_of_kinds
use Rattle.bus.proofs.mode.mode_of.Reads as mode_of_reads
use Rattle.bus.proofs.kind.kind_of.Kinds as kind_of_kinds
use Rattle.bus.proofs.kind.kind_of.Reads as kind_of_reads
use Rattle.bus.proofs.status.Status.caught.Kinds as caught_kinds
use Rattle.bus.proofs.status.Status.caught.Reads as caught_reads
use Rattle.bus.proofs.status.Status.word.Kinds as status_word_kinds
use Rattle.bus.proofs.status.Status.word.Reads as status_word_reads
use Rattle.bus.proofs.status.with_error.Kinds as with_error_kinds
use Rattle.bus.proofs.status.with_error.Reads as with_error_reads
use Rattle.bus.proofs.word.word_of.Kinds as word_of_kinds
use Rattle.bus.proofs.word.word_of.Reads as word_of_reads

pub address : Determined 0 address_kinds.ps address_kinds.r address_reads.Post
address κs arguments result result' exit exit' = same

pub is_transmit : Determined 0 is_transmit_kinds.ps is_transmit_kinds.r is_transmit_reads.Post
is_transmit κs arguments result result' exit exit' = same

pub subaddress : Determined 0 subaddress_kinds.ps subaddress_kinds.r subaddress_reads.Post
subaddress κs arguments result result' exit exit' = same

pub mode_code : Determined 0 mode_code_kinds.ps mode_code_kinds.r mode_code_reads.Post
mode_code κs arguments result result' exit exit' = same

pub words : Determined 0 words_kinds.ps words_kinds.r words_reads.Post
words κs arguments result result' exit exit' = same

pub is_broadcast : Determined 0 is_broadcast_kinds.ps is_broadcast_kinds.r is_broadcast_reads.Post
is_broadcast κs arguments result result' exit exit' = same

pub is_mode : Determined 0 is_mode_kinds.ps is_mode_kinds.r is_mode_reads.Post
is_mode κs arguments result result' exit exit' = same

pub mode_of : Determined 0 mode_of_kinds.ps mode_of_kinds.r mode_of_reads.Post
mode_of κs arguments result result' exit exit' = same

pub kind_of : Determined 0 kind_of_kinds.ps kind_of_kinds.r kind_of_reads.Post
kind_of κs arguments result result' exit exit' = same

pub caught : Determined 0 caught_kinds.ps caught_kinds.r caught_reads.Post
caught κs arguments result result' exit exit' = same

pub status_word : Determined 0 status_word_kinds.ps status_word_kinds.r status_word_reads.Post
status_word κs arguments result result' exit exit' = same

pub with_error : Determined 0 with_error_kinds.ps with_error_kinds.r with_error_reads.Post
with_error κs arguments result result' exit exit' = same

pub word_of : Determined 0 word_of_kinds.ps word_of_kinds.r word_of_reads.Post
word_of κs arguments result result' exit exit' = same
