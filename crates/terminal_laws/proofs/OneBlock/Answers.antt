-- The answers of two related runs: the same reply but for the message error bit, and at most 32
-- words sent. Assumes nothing.
use Rattle.std.proofs.Common.{None, Option, Some}
use mathlib.Core.Path.{◌≡◌, refl, sym, subst}
use mathlib.Core.Bool.{Bool, true, false, cond, not, ◌&&◌}
use Prim.Native.Nat.{ℕ, ◌≤◌}
use native.Mathlib.Omega.{arith}
use lib.Dec.{eqb}
use Rattle.rules.proofs.Choices.{by_test}
use Rattle.rules.proofs.Clash.{clash}
use Rattle.bus.specs.declared.kind.Kind.{Kind}
use Rattle.bus.specs.declared.kind.Kind.TheVariants.{
  Receive,
  Transmit,
  ModeStatus,
  ModeLast,
  ModeSwitch,
  ModeSend,
  ModeTake,
  ModeReply,
  Illegal,
}
use Rattle.bus.specs.Kind.{kind_of}
use Rattle.bus.specs.Status.{without_error}
use Rattle.card.specs.declared.place.Block.{Block}
use Rattle.message.specs.declared.judge.SilenceAct.{SilenceAct}
use Rattle.message.specs.declared.judge.SilenceAct.TheVariants.{Ignore, AwaitStatus, Fault, End}
use Rattle.message.specs.declared.state.OpenMessage.{OpenMessage}
use Rattle.message.specs.Asked.{asked_by, asks}
use Rattle.message.specs.Silence.{on_silence}
use Rattle.message.proofs.AskedBounds.{sends_at_most}
use Rattle.terminal.specs.declared.state.Core.{Core}
use Rattle.terminal.specs.declared.state.Reply.{Reply}
use Rattle.terminal.specs.declared.state.Reply.TheVariants.{Silent, Status, Words, Last}
use Rattle.terminal.specs.declared.state.Answer.{Answer}
use Rattle.terminal.specs.declared.state.Answer.TheVariants.{Replied, QueueWord}
use Rattle.terminal.specs.State.{Card, with_status}
use Rattle.terminal.specs.Closing.{unless_busy, replies, reply_of}
use Rattle.terminal.specs.Event.{
  Event,
  word,
  silence,
  read_queue,
  host_write,
  move_table,
  set_flags,
}
use Rattle.terminal.specs.SilenceStep.{silence_done, silence_met, silence_step}
use Rattle.terminal.specs.Machine.{
  read_queue_step,
  host_write_step,
  move_table_step,
  set_flags_step,
  step,
}
use Rattle.terminal.proofs.SilentLaws.{words_are_silent}
use Rattle.terminal_laws.specs.OneBlock.{SameAnswer, same, status_but_error, last_but_error}
use Rattle.terminal_laws.proofs.OneBlock.Relation.{
  Asks,
  asks_status,
  asks_last,
  asking,
  Statuses,
  equal,
  but_error,
}

-- ---- the same reply

module _ (message : OpenMessage) (core : Core) (status : ℕ)
    (but : without_error core.status ≡ without_error status) where
  -- "transmit status word" sends no words, busy or not
  status_reply : (given busy : Bool) → kind_of message.command ≡ ModeStatus
      → SameAnswer true (Some message)
      (Replied (cond (not given) Silent
      (cond (eqb (cond (busy && false) 0 0) 0) (Status core.status)
      (Words core.status message.block 0))))
      (Replied (cond (not given) Silent
      (cond (eqb (cond (busy && false) 0 0) 0) (Status status)
      (Words status message.block 0))))
  status_reply false busy is = same
  status_reply true true is = status_but_error is but
  status_reply true false is = status_but_error is but

  -- "transmit last command" sends that
  last_reply : (given : Bool) → kind_of message.command ≡ ModeLast
      → SameAnswer true (Some message)
      (Replied (cond (not given) Silent (Last core.status core.last)))
      (Replied (cond (not given) Silent (Last status core.last)))
  last_reply false is = same
  last_reply true is = last_but_error is but

  asked_reply : (kind : Kind) → kind_of message.command ≡ kind → Asks kind
      → SameAnswer true (Some message)
      (Replied (reply_of (asked_by kind message.command) core message))
      (Replied (reply_of (asked_by kind message.command) (with_status status core) message))
  unfolding reply_of replies with_status asked_by
  asked_reply ModeStatus is asks_status =
      status_reply (replies core message) message.busy is
  asked_reply ModeLast is asks_last = last_reply (replies core message) is
  asked_reply Receive is asks = elim asks [ ]
  asked_reply Transmit is asks = elim asks [ ]
  asked_reply ModeSwitch is asks = elim asks [ ]
  asked_reply ModeSend is asks = elim asks [ ]
  asked_reply ModeTake is asks = elim asks [ ]
  asked_reply ModeReply is asks = elim asks [ ]
  asked_reply Illegal is asks = elim asks [ ]

pub same_reply : {before : Bool} (message : OpenMessage) (core : Core) (status : ℕ)
    → Statuses before (Some message) core.status status
    → SameAnswer before (Some message)
    (Replied (reply_of (asks message) core message))
    (Replied (reply_of (asks message) (with_status status core) message))
unfolding reply_of replies with_status
same_reply message core status equal = same
same_reply message core status (but_error (asking asks) but) =
    asked_reply message core status but (kind_of message.command) refl asks

-- ---- at most 32 words

data AtMost32 : Answer → Type 0 where
  silent : AtMost32 (Replied Silent)
  a_status : {status : ℕ} → AtMost32 (Replied (Status status))
  a_last : {status last : ℕ} → AtMost32 (Replied (Last status last))
  some_words : {status : ℕ} {block : Block} {count : ℕ} → count ≤ 32
      → AtMost32 (Replied (Words status block count))
  a_queue_word : {oldest : ℕ} → AtMost32 (QueueWord oldest)

abbrev Given : Reply → Type 0
Given reply = AtMost32 (Replied reply)

at_most_done : (act : SilenceAct) (message : OpenMessage) (time : ℕ) (old : Card)
    → AtMost32 (silence_done act (asks message) message time old).answer
unfolding silence_done reply_of
at_most_done Ignore message time old = silent
at_most_done AwaitStatus message time old = silent
at_most_done (Fault code) message time old = silent
at_most_done End message time old =
    let asked = asks message in
    by_test Given (not (replies old.core message)) (λ _. silent) (λ _.
    by_test Given asked.last (λ _. a_last) (λ _.
    by_test Given (eqb (unless_busy asked message asked.sends) 0) (λ _. a_status) (λ _.
    some_words (sends_at_most message.command))))

at_most_silence : (message : Option OpenMessage) (line : Bool) (time : ℕ) (old : Card)
    → AtMost32 (silence_met message line time old).answer
at_most_silence None line time old = silent
at_most_silence (Some message) line time old =
    at_most_done (on_silence (asks message) message line) message time old

at_most_answer : (event : Event) (old : Card) → AtMost32 (step event old).answer
unfolding step silence_step read_queue_step host_write_step move_table_step set_flags_step
at_most_answer (word heard) old = subst AtMost32 (sym (words_are_silent heard old)) silent
at_most_answer (silence line time) old = at_most_silence old.core.message line time old
at_most_answer read_queue old = a_queue_word
at_most_answer (host_write address words) old = silent
at_most_answer (move_table table) old = silent
at_most_answer (set_flags flags) old = silent

at_most_count : {answer : Answer} {status : ℕ} {block : Block} {count : ℕ} → AtMost32 answer
    → answer ≡ Replied (Words status block count) → count ≤ 32
at_most_count silent is = absurd (clash (cc))
at_most_count a_status is = absurd (clash (cc))
at_most_count a_last is = absurd (clash (cc))
at_most_count {count = count} (some_words {count = sent} fits) is =
    let same : sent ≡ count = cc in
    omega arith
at_most_count a_queue_word is = absurd (clash (cc))

pub sent_at_most : (event : Event) (old : Card) (status : ℕ) (block : Block) (count : ℕ)
    → (step event old).answer ≡ Replied (Words status block count) → count ≤ 32
sent_at_most event old status block count is = at_most_count (at_most_answer event old) is
