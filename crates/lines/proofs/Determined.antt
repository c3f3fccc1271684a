-- Each public contract of the crate allows one outcome alone: one next place, and one content of
-- every byte of the buffer. Assumes nothing.
use mathlib.Core.List.{List}
use Prim.Native.Nat.{ℕ}
use Rattle.rules.proofs.Determined.{DeterminedAs, same}
use Rattle.lines.specs.Page.{on}
use Rattle.lines.specs.Written.{Put}
use Rattle.lines.proofs.Page.written.Kinds as written_kinds
use Rattle.lines.proofs.Page.written.Reads as written_reads
use Rattle.lines.proofs.Page.status_line.Kinds as status_line_kinds
use Rattle.lines.proofs.Page.status_line.Reads as status_line_reads
use Rattle.lines.proofs.Page.queue_line.Kinds as queue_line_kinds
use Rattle.lines.proofs.Page.queue_line.Reads as queue_line_reads
use Rattle.lines.proofs.Page.end_line.Kinds as end_line_kinds
use Rattle.lines.proofs.Page.end_line.Reads as end_line_reads
use Rattle.lines.proofs.Page.refusal_line.Kinds as refusal_line_kinds
use Rattle.lines.proofs.Page.refusal_line.Reads as refusal_line_reads
use Rattle.lines.proofs.Page.given_line.Kinds as given_line_kinds
use Rattle.lines.proofs.Page.given_line.Reads as given_line_reads
use Rattle.lines.proofs.Page.result_line.Kinds as result_line_kinds
use Rattle.lines.proofs.Page.result_line.Reads as result_line_reads
use Rattle.lines.proofs.Page.text.Kinds as text_kinds
use Rattle.lines.proofs.Page.text.Reads as text_reads
use Rattle.lines.proofs.Page.hex_byte.Kinds as hex_byte_kinds
use Rattle.lines.proofs.Page.hex_byte.Reads as hex_byte_reads
use Rattle.lines.proofs.Page.hex_word.Kinds as hex_word_kinds
use Rattle.lines.proofs.Page.hex_word.Reads as hex_word_reads
use Rattle.lines.proofs.Page.decimal.Kinds as decimal_kinds
use Rattle.lines.proofs.Page.decimal.Reads as decimal_reads

pub status_line :
    DeterminedAs 3 status_line_kinds.ps status_line_kinds.r status_line_reads.Post Put
    (λ κs result exit. on exit.0.now)
status_line κs arguments result result' exit exit' is is' = same is.is_wanted is'.is_wanted

pub queue_line :
    DeterminedAs 2 queue_line_kinds.ps queue_line_kinds.r queue_line_reads.Post Put
    (λ κs result exit. on exit.0.now)
queue_line κs arguments result result' exit exit' is is' = same is.is_wanted is'.is_wanted

pub end_line :
    DeterminedAs 2 end_line_kinds.ps end_line_kinds.r end_line_reads.Post Put
    (λ κs result exit. on exit.0.now)
end_line κs arguments result result' exit exit' is is' = same is.is_wanted is'.is_wanted

pub refusal_line :
    DeterminedAs 2 refusal_line_kinds.ps refusal_line_kinds.r refusal_line_reads.Post Put
    (λ κs result exit. on exit.0.now)
refusal_line κs arguments result result' exit exit' is is' = same is.is_wanted is'.is_wanted

pub given_line :
    DeterminedAs 3 given_line_kinds.ps given_line_kinds.r given_line_reads.Post Put
    (λ κs result exit. on exit.0.now)
given_line κs arguments result result' exit exit' is is' = same is.is_wanted is'.is_wanted

pub result_line :
    DeterminedAs 2 result_line_kinds.ps result_line_kinds.r result_line_reads.Post Put
    (λ κs result exit. on exit.0.now)
result_line κs arguments result result' exit exit' is is' = same is.is_wanted is'.is_wanted

pub text :
    DeterminedAs 3 text_kinds.ps text_kinds.r text_reads.Post Put
    (λ κs result exit. on exit.0.now)
text κs arguments result result' exit exit' is is' = same is.is_wanted is'.is_wanted

pub hex_byte :
    DeterminedAs 2 hex_byte_kinds.ps hex_byte_kinds.r hex_byte_reads.Post Put
    (λ κs result exit. on exit.0.now)
hex_byte κs arguments result result' exit exit' is is' = same is.is_wanted is'.is_wanted

pub hex_word :
    DeterminedAs 2 hex_word_kinds.ps hex_word_kinds.r hex_word_reads.Post Put
    (λ κs result exit. on exit.0.now)
hex_word κs arguments result result' exit exit' is is' = same is.is_wanted is'.is_wanted

pub decimal :
    DeterminedAs 2 decimal_kinds.ps decimal_kinds.r decimal_reads.Post Put
    (λ κs result exit. on exit.0.now)
decimal κs arguments result result' exit exit' is is' = same is.is_wanted is'.is_wanted

pub written :
    DeterminedAs 2 written_kinds.ps written_kinds.r written_reads.Post (List ℕ)
    (λ κs result exit. result.now)
written κs arguments result result' exit exit' = same
