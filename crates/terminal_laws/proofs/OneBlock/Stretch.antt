-- The stretch between: the data receive is open still, or has closed and its chain has moved on;
-- and besides only cells of its block that a broken message costs have changed. Assumes nothing.
use Rattle.std.proofs.Common.{None, Option, Some}
use mathlib.Core.Path.{◌≡◌, refl}
use mathlib.Core.Bool.{Bool, true, false, cond}
use mathlib.Core.List.{List, [], ◌∷◌}
use Prim.Native.Nat.{ℕ, ◌<◌}
use Rattle.bus.specs.declared.kind.Kind.TheVariants.{Receive}
use Rattle.bus.specs.declared.word.Word.{Word}
use Rattle.bus.specs.Kind.{kind_of}
use Rattle.bus.specs.Status.{without_error, with_error}
use Rattle.bus.proofs.StatusLaws.{without_error_of_with_error}
use Rattle.card.specs.declared.place.Block.{Block}
use Rattle.card.specs.Memory.{the_cell}
use Rattle.card.specs.Time.{ticks_of}
use Rattle.message.specs.declared.judge.WordAct.{WordAct}
use Rattle.message.specs.declared.judge.WordAct.TheVariants.{
  Ignore,
  Store,
  Check,
  TakeSecond,
  TakeStatus,
  Fault,
  Supersede,
  Drop,
}
use Rattle.message.specs.declared.judge.SilenceAct.{SilenceAct}
use Rattle.message.specs.declared.judge.SilenceAct.TheVariants.{
  Ignore as IgnoreSilence,
  AwaitStatus,
  Fault as FaultSilence,
  End,
}
use Rattle.message.specs.declared.state.Stage.{Stage}
use Rattle.message.specs.declared.state.Stage.TheVariants.{Data, SecondCommand, AwaitingStatus}
use Rattle.message.specs.declared.state.OpenMessage.{OpenMessage}
use Rattle.message.specs.Message.{further}
use Rattle.message.specs.Asked.{asked_by, asked_of, asks}
use Rattle.message.specs.Words.{own_command, on_word}
use Rattle.message.specs.Silence.{on_silence}
use Rattle.terminal.specs.declared.state.Core.{Core}
use Rattle.terminal.specs.State.{Card, card, with_status, with_switches, with_message}
use Rattle.terminal.specs.Closing.{
  linked,
  closed_ram,
  closed_queue,
  closing,
  faulted,
  switched_shut,
  switched_inhibit,
  switched,
  ended,
}
use Rattle.terminal.specs.Event.{
  Event,
  word,
  silence,
  read_queue,
  host_write,
  move_table,
  set_flags,
  none,
  quietly,
  opens,
}
use Rattle.terminal.specs.WordStep.{word_done, word_step}
use Rattle.terminal.specs.SilenceStep.{silence_done, silence_step}
use Rattle.terminal.specs.Machine.{step, run}
use Rattle.terminal_laws.specs.OneBlock.{Calm, nothing, a_word, a_silence}
use Rattle.terminal_laws.proofs.OneBlock.Agreement.{
  Agree,
  agree_trans,
  agree_data,
  agree_service,
  both_linked,
}
use Rattle.terminal_laws.proofs.StoreLaws.{stores_data}
use Rattle.terminal_laws.proofs.OneBlock.Acts.{opens_something}

-- memory after the closing, but for the cells that it costs
abbrev pub linked_by : OpenMessage → List ℕ → List ℕ
linked_by message ram =
    linked message.moved message.block message.table (asks message).cell ram

-- the message further on, and the message gone
abbrev pub onward : Card → OpenMessage → Stage → Option ℕ → ℕ → List ℕ → Card
onward start message stage second taken ram =
    card (with_message (Some (further stage second taken message)) start.core) start.queue ram

abbrev pub gone : Card → OpenMessage → ℕ → List ℕ → Card
gone start message status ram =
    card (with_status status (with_message None start.core))
    (closed_queue (asks message) message start.queue)
    ram

-- the cards that the stretch can lead to from `start`, where the message is open
pub data Span (Spent : Block → Type 0) (start : Card) (message : OpenMessage) : Card → Type 0 where
  is_open : {ram : List ℕ} (stage : Stage) (second : Option ℕ) (taken : ℕ)
      → Agree Spent start.ram ram
      → Span Spent start message (onward start message stage second taken ram)
  is_gone : {ram : List ℕ} (status : ℕ)
      → without_error status ≡ without_error start.core.status
      → Agree Spent (linked_by message start.ram) ram
      → Span Spent start message (gone start message status ram)

module _ {Spent : Block → Type 0} (start : Card) (message : OpenMessage)
    (receives : kind_of message.command ≡ Receive) (spent : Spent message.block) where
  -- ---- the message goes on, or closes

  module _ (stage : Stage) (second : Option ℕ) (taken : ℕ) (ram : List ℕ)
      (agree : Agree Spent start.ram ram) where
    abbrev further_on_lem : OpenMessage
    further_on_lem = further stage second taken message

    abbrev here : Card
    here = onward start message stage second taken ram

    agree_closed : (state time : ℕ)
        → Agree Spent (linked_by message start.ram)
        (closed_ram (asks message) state time further_on_lem ram)
    unfolding closed_ram further asked_by
    agree_closed state time =
        rw receives
        (both_linked message.moved message.block message.table _
        (agree_trans agree
        (agree_service message.block state time (ticks_of message.opened time) spent ram)))

    pub span_faulted : (code time : ℕ)
        → Span Spent start message
        (faulted (asks message) code time further_on_lem here)
    unfolding faulted closing closed_queue further with_status with_message
    span_faulted code time =
        is_gone (with_error start.core.status)
        (without_error_of_with_error start.core.status) (agree_closed _ time)

    -- a data receive sets no switch
    no_switch : (line : Bool) (core : Core)
        → switched (asks message).switch line core ≡ core
    unfolding switched_shut switched_inhibit with_switches asked_by
    no_switch line core = rw receives refl

    span_ended : (time : ℕ)
        → Span Spent start message (ended (asks message) time further_on_lem here)
    unfolding ended closing closed_queue further with_status with_message
    span_ended time =
        rw (no_switch message.line here.core)
        (is_gone start.core.status refl (agree_closed _ time))

    -- each act of a word that opens nothing
    span_word_done : (act : WordAct) (heard : Word)
        → ((next : ℕ) → act ≡ Store next → taken < 32)
        → (word_done act (asks message) further_on_lem heard here).opened ≡ none
        → Span Spent start message
        (word_done act (asks message) further_on_lem heard here).card
    unfolding word_done further with_message
    span_word_done Ignore heard bounded quiet = is_open stage second taken agree
    span_word_done (Store next) heard bounded quiet =
        is_open Data second next
        (agree_trans agree
        (agree_data message.block (the_cell taken) heard.value spent (bounded next refl) ram))
    span_word_done (Check next) heard bounded quiet = is_open Data second next agree
    span_word_done (TakeSecond value) heard bounded quiet =
        is_open SecondCommand (Some value) taken agree
    span_word_done TakeStatus heard bounded quiet = is_open Data second taken agree
    span_word_done (Fault code) heard bounded quiet = span_faulted code heard.time
    span_word_done Supersede heard bounded quiet =
        absurd (opens_something (asked_of heard.value) quiet)
    span_word_done Drop heard bounded quiet =
        absurd (opens_something (asked_of heard.value) quiet)

    -- each act of a silence
    span_silence_done : (act : SilenceAct) (time : ℕ)
        → Span Spent start message
        (silence_done act (asks message) further_on_lem time here).card
    unfolding silence_done further with_message
    span_silence_done IgnoreSilence time = is_open stage second taken agree
    span_silence_done AwaitStatus time = is_open AwaitingStatus second taken agree
    span_silence_done (FaultSilence code) time = span_faulted code time
    span_silence_done End time = span_ended time

  -- ---- one event, and the stretch

  -- where the message has closed, no word opens another
  span_own : (own : Bool) (heard : Word) (old : Card) → Span Spent start message old
      → (cond own (opens heard old) (quietly old)).opened ≡ none
      → Span Spent start message (cond own (opens heard old) (quietly old)).card
  span_own true heard old span quiet = absurd (opens_something (asked_of heard.value) quiet)
  span_own false heard old span quiet = span

  span_word : {old : Card} (heard : Word) → (step (word heard) old).opened ≡ none
      → Span Spent start message old → Span Spent start message (step (word heard) old).card
  unfolding step word_step further with_message with_status
  span_word heard quiet (is_open {ram} stage second taken agree) =
      span_word_done stage second taken ram agree
      (on_word start.core.station start.core.flags (asks message)
      (further stage second taken message) heard)
      heard
      (λ next judged. (stores_data start (further stage second taken message) heard next judged
      ).data_cell)
      quiet
  span_word heard quiet (is_gone {ram} status but agree) =
      span_own (own_command start.core.station start.core.flags heard) heard
      (gone start message status ram) (is_gone status but agree) quiet

  span_silence : {old : Card} (line : Bool) (time : ℕ)
      → Span Spent start message old
      → Span Spent start message (step (silence line time) old).card
  unfolding step silence_step further with_message with_status
  span_silence line time (is_open {ram} stage second taken agree) =
      span_silence_done stage second taken ram agree
      (on_silence (asks message) (further stage second taken message) line) time
  span_silence line time (is_gone status but agree) = is_gone status but agree

  pub span_run : {old : Card} (events : List Event) → Calm events old
      → Span Spent start message old → Span Spent start message (run events old)
  unfolding run
  span_run [] nothing span = span
  span_run {old = old} (word heard ∷ events) (a_word quiet calm) span =
      span_run {old = (step (word heard) old).card} events calm (span_word heard quiet span)
  span_run {old = old} (silence line time ∷ events) (a_silence calm) span =
      span_run {old = (step (silence line time) old).card} events calm (span_silence line time span)
  span_run (read_queue ∷ events) calm span = elim calm [ ]
  span_run (host_write address words ∷ events) calm span = elim calm [ ]
  span_run (move_table table ∷ events) calm span = elim calm [ ]
  span_run (set_flags flags ∷ events) calm span = elim calm [ ]
