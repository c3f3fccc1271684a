-- The relation between two runs that go on with the same events, for any set of spent blocks: the
-- second core is the first with another remembered status, and memories agree. Assumes nothing.
use Rattle.std.proofs.Common.{None, Option, Some}
use mathlib.Core.Path.{◌≡◌, refl, ap}
use mathlib.Core.Bool.{Bool, true}
use Prim.Native.Nat.{ℕ, ◌+◌}
use Rattle.bus.specs.declared.kind.Kind.{Kind}
use Rattle.bus.specs.declared.kind.Kind.TheVariants.{ModeStatus, ModeLast}
use Rattle.bus.specs.Kind.{kind_of}
use Rattle.bus.specs.Status.{without_error, with_error}
use Rattle.card.specs.declared.place.Block.{Block}
use Rattle.message.specs.declared.state.Stage.{Stage}
use Rattle.message.specs.declared.state.OpenMessage.{OpenMessage}
use Rattle.message.specs.Message.{further, moved_message}
use Rattle.terminal.specs.State.{Card, with_status}
use Rattle.terminal.specs.Event.{Outcome}
use Rattle.terminal_laws.specs.OneBlock.{SameQueue, Alike, still_before, SameAnswer}
use Rattle.terminal_laws.proofs.OneBlock.Agreement.{Agree, agree_refl}
use Rattle.terminal_laws.proofs.OneBlock.Queues.{same_queue}

-- ---- the remembered statuses

-- a command that answers with the remembered status as it was kept
pub data Asks : Kind → Type 0 where
  asks_status : Asks ModeStatus
  asks_last : Asks ModeLast

-- nothing is open, or a message of such a command
pub data Asking : Option OpenMessage → Type 0 where
  asking_none : Asking None
  asking : {message : OpenMessage} → Asks (kind_of message.command) → Asking (Some message)

-- the same; or, before any other command opens a message, the same but for the message error bit
pub data Statuses : Bool → Option OpenMessage → ℕ → ℕ → Type 0 where
  equal : {before : Bool} {message : Option OpenMessage} {status : ℕ}
      → Statuses before message status status
  but_error : {message : Option OpenMessage} {status other : ℕ} → Asking message
      → without_error status ≡ without_error other → Statuses true message status other

-- in either case they are the same without the bit
pub same_but_error : {before : Bool} {message : Option OpenMessage} {status other : ℕ}
    → Statuses before message status other → without_error status ≡ without_error other
same_but_error equal = refl
same_but_error (but_error asks same) = same

-- a fault sets the bit in both
pub statuses_faulted : {before : Bool} {message : Option OpenMessage} {status other : ℕ}
    → Statuses before message status other
    → Statuses before None (with_error status) (with_error other)
unfolding with_error
statuses_faulted equal = equal
statuses_faulted (but_error asks same) =
    but_error asking_none (ap (λ (status : ℕ). without_error (status + 1024)) same)

-- a message closes, goes on, or hears of a table move
pub statuses_idle : {before : Bool} {message : Option OpenMessage} {status other : ℕ}
    → Statuses before message status other → Statuses before None status other
statuses_idle equal = equal
statuses_idle (but_error asks same) = but_error asking_none same

pub statuses_further : {before : Bool} {message : OpenMessage} {status other : ℕ}
    (stage : Stage) (second : Option ℕ) (taken : ℕ)
    → Statuses before (Some message) status other
    → Statuses before (Some (further stage second taken message)) status other
unfolding further
statuses_further stage second taken equal = equal
statuses_further stage second taken (but_error (asking asks) same) = but_error (asking asks) same

pub statuses_moved : {before : Bool} {message : Option OpenMessage} {status other : ℕ}
    → Statuses before message status other
    → Statuses before (moved_message message) status other
unfolding moved_message
statuses_moved equal = equal
statuses_moved (but_error asking_none same) = but_error asking_none same
statuses_moved (but_error (asking asks) same) = but_error (asking asks) same

-- ---- two cards, and what comes of one event

pub record Related (Spent : Block → Type 0) (before : Bool) (here there : Card) : Type 0 where
  pub status : ℕ
  pub core : there.core ≡ with_status status here.core
  pub queue : SameQueue here.queue there.queue
  pub statuses : Statuses before here.core.message here.core.status status
  pub cells : Agree Spent here.ram there.ram

pub related_self : {Spent : Block → Type 0} {before : Bool} (here : Card)
    → Related Spent before here here
unfolding with_status
related_self here =
    record {
      status = here.core.status;
      core = refl;
      queue = same_queue here.queue;
      statuses = equal;
      cells = agree_refl here.ram;
    }

pub related_alike : {Spent : Block → Type 0} {before : Bool} {here there : Card}
    → Related Spent before here there → Alike Spent here there
related_alike related = record {
  queue = related.queue;
  long = related.cells.long;
  cell = related.cells.cell;
}

pub record StillRelated (Spent : Block → Type 0) (before : Bool) (message : Option OpenMessage)
    (here there : Outcome) : Type 0 where
  pub answer : SameAnswer before message here.answer there.answer
  pub related : Related Spent (still_before before here.opened) here.card there.card
