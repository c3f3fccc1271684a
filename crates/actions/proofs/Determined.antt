-- Each public contract of the crate allows one outcome alone: one result, one terminal, and one
-- content of every cell that was lent. Assumes nothing.
use Rattle.std.proofs.Common.{◌≡◌, ℕ, List, Result, ap, ap₂}
use Rattle.std.specs.Result.{result_unwrap_or}
use Rattle.rules.proofs.Determined.{Determined, DeterminedAs, same}
use Rattle.refusals.specs.declared.Refusal.{Refusal}
use Rattle.refusals.specs.Number.{refused}
use Rattle.refusals.proofs.NumberLaws.{same_outcome, same_given}
use Rattle.terminal.specs.declared.state.Reply.{Reply}
use Rattle.terminal.specs.declared.state.Reply.TheVariants.{Silent}
use Rattle.terminal.specs.declared.state.Answer.{Answer}
use Rattle.terminal.specs.declared.state.Answer.TheVariants.{Replied, QueueWord}
use Rattle.terminal.specs.State.{Card}
use Rattle.terminal.specs.Event.{replied, queue_word}
use Rattle.actions.specs.Actions.{After, after, over, alone, Done, no_terminal}
use Rattle.actions.proofs.Terminal.setup.Kinds as setup_kinds
use Rattle.actions.proofs.Terminal.setup.Reads as setup_reads
use Rattle.actions.proofs.Terminal.of_no_station.Kinds as none_kinds
use Rattle.actions.proofs.Terminal.of_no_station.Reads as none_reads
use Rattle.actions.proofs.Terminal.is_fit.Kinds as is_fit_kinds
use Rattle.actions.proofs.Terminal.is_fit.Reads as is_fit_reads
use Rattle.actions.proofs.Terminal.word.Kinds as word_kinds
use Rattle.actions.proofs.Terminal.word.Reads as word_reads
use Rattle.actions.proofs.Terminal.silence.Kinds as silence_kinds
use Rattle.actions.proofs.Terminal.silence.Reads as silence_reads
use Rattle.actions.proofs.Terminal.host_write.Kinds as host_write_kinds
use Rattle.actions.proofs.Terminal.host_write.Reads as host_write_reads
use Rattle.actions.proofs.Terminal.read_queue.Kinds as read_queue_kinds
use Rattle.actions.proofs.Terminal.read_queue.Reads as read_queue_reads
use Rattle.actions.proofs.Terminal.move_table.Kinds as move_table_kinds
use Rattle.actions.proofs.Terminal.move_table.Reads as move_table_reads
use Rattle.actions.proofs.Terminal.set_flags.Kinds as set_flags_kinds
use Rattle.actions.proofs.Terminal.set_flags.Reads as set_flags_reads

-- ---- what two answers that are told alike are

abbrev Left : Type 0 → Type 0
Left A = Result A Refusal × Card

nothing_told : (one other : Result Unit Refusal) (old new : Card)
    → after (refused one) (replied Silent) old ≡ after (refused other) (replied Silent) new
    → ◌≡◌ {A = Left Unit} (one, old) (other, new)
nothing_told one other old new is =
    ap₂ (λ (any : Result Unit Refusal) (left : Card). (any, left))
    (same_outcome one other (ap (λ (any : After). any.refusal) is))
    (ap (λ (any : After). any.card) is)

abbrev reply_in : Answer → Reply
reply_in (Replied reply) = reply
reply_in (QueueWord word) = Silent

abbrev word_in : Answer → ℕ
word_in (Replied reply) = 0
word_in (QueueWord word) = word

reply_told : (one other : Result Reply Refusal) (old new : Card)
    → after (refused one) (replied (result_unwrap_or one Silent)) old
    ≡ after (refused other) (replied (result_unwrap_or other Silent)) new
    → ◌≡◌ {A = Left Reply} (one, old) (other, new)
reply_told one other old new is =
    ap₂ (λ (any : Result Reply Refusal) (left : Card). (any, left))
    (same_given Silent one other (ap (λ (any : After). any.refusal) is)
    (ap (λ (any : After). reply_in any.answer) is))
    (ap (λ (any : After). any.card) is)

word_told : (one other : Result ℕ Refusal) (old new : Card)
    → after (refused one) (queue_word (result_unwrap_or one 0)) old
    ≡ after (refused other) (queue_word (result_unwrap_or other 0)) new
    → ◌≡◌ {A = Left ℕ} (one, old) (other, new)
word_told one other old new is =
    ap₂ (λ (any : Result ℕ Refusal) (left : Card). (any, left))
    (same_given 0 one other (ap (λ (any : After). any.refusal) is)
    (ap (λ (any : After). word_in any.answer) is))
    (ap (λ (any : After). any.card) is)

-- ---- the functions

pub setup : Determined 0 setup_kinds.ps setup_kinds.r setup_reads.Post
setup κs arguments result result' exit exit' told told' =
    same_given no_terminal result result' (ap (λ (any : Done). any.refusal) (same told told'))
    (ap (λ (any : Done). any.terminal) (same told told'))

pub of_no_station : Determined 0 none_kinds.ps none_kinds.r none_reads.Post
of_no_station κs arguments result result' exit exit' = same

pub word :
    DeterminedAs 2 word_kinds.ps word_kinds.r word_reads.Post (Left Unit)
    (λ κs result exit. (result, over exit.0.now exit.1.0.now))
word κs arguments result result' exit exit' told told' =
    nothing_told result result' _ _ (same told told')

pub silence :
    DeterminedAs 2 silence_kinds.ps silence_kinds.r silence_reads.Post (Left Reply)
    (λ κs result exit. (result, over exit.0.now exit.1.0.now))
silence κs arguments result result' exit exit' told told' =
    reply_told result result' _ _ (same told told')

pub host_write :
    DeterminedAs 3 host_write_kinds.ps host_write_kinds.r host_write_reads.Post
    (Result Unit Refusal × List ℕ) (λ κs result exit. (result, exit.1.0.now))
host_write κs arguments result result' exit exit' told told' =
    ap (λ (any : Left Unit). (any.0, any.1.ram))
    (nothing_told result result' _ _ (same told told'))

pub read_queue :
    DeterminedAs 1 read_queue_kinds.ps read_queue_kinds.r read_queue_reads.Post (Left ℕ)
    (λ κs result exit. (result, alone exit.0.now))
read_queue κs arguments result result' exit exit' told told' =
    word_told result result' _ _ (same told told')

pub move_table :
    DeterminedAs 1 move_table_kinds.ps move_table_kinds.r move_table_reads.Post (Left Unit)
    (λ κs result exit. (result, alone exit.0.now))
move_table κs arguments result result' exit exit' told told' =
    nothing_told result result' _ _ (same told told')

pub set_flags :
    DeterminedAs 1 set_flags_kinds.ps set_flags_kinds.r set_flags_reads.Post (Left Unit)
    (λ κs result exit. (result, alone exit.0.now))
set_flags κs arguments result result' exit exit' told told' =
    nothing_told result result' _ _ (same told told')

pub is_fit : Determined 1 is_fit_kinds.ps is_fit_kinds.r is_fit_reads.Post
is_fit κs arguments result result' exit exit' = same
