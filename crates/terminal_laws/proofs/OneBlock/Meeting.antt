-- Where two stretches meet: both messages have closed, or the next command closes what is open. The
-- cards are related then, where those were that the stretches began from. Assumes nothing.
use Rattle.std.proofs.Common.{None, Some}
use mathlib.Core.Path.{◌≡◌, refl, sym, ap, subst, ◌∙◌}
use mathlib.Core.Logic.{◌≢◌}
use mathlib.Core.Bool.{Bool, true, false, cond}
use mathlib.Core.List.{List, ◌∷◌}
use Rattle.rules.proofs.Clash.{clash}
use Rattle.bus.specs.declared.kind.Kind.TheVariants.{Receive}
use Rattle.bus.specs.declared.word.Word.{Word}
use Rattle.bus.specs.Kind.{kind_of}
use Rattle.bus.specs.Status.{without_error}
use Rattle.card.specs.declared.place.Block.{Block}
use Rattle.message.specs.declared.judge.WordAct.{WordAct}
use Rattle.message.specs.declared.state.OpenMessage.{OpenMessage}
use Rattle.message.specs.Message.{further}
use Rattle.message.specs.Asked.{asks}
use Rattle.message.specs.Words.{own_command}
use Rattle.terminal.specs.declared.state.Core.{Core}
use Rattle.terminal.specs.State.{Card, with_status, with_message}
use Rattle.terminal.specs.Closing.{closing, faulted}
use Rattle.terminal.specs.Event.{Event, word, none, quietly, opens}
use Rattle.terminal.specs.WordStep.{word_done, word_step}
use Rattle.terminal.specs.Machine.{step}
use Rattle.terminal_laws.specs.OneBlock.{same, Later, BothOver, closed, superseded, Spared}
use Rattle.terminal_laws.proofs.OneBlock.Agreement.{agree_sym, agree_trans, both_linked}
use Rattle.terminal_laws.proofs.OneBlock.Queues.{same_closed}
use Rattle.terminal_laws.proofs.OneBlock.Relation.{
  asking_none,
  but_error,
  same_but_error,
  Related,
  StillRelated,
}
use Rattle.terminal_laws.proofs.OneBlock.Changes.{related_opening}
use Rattle.terminal_laws.proofs.OneBlock.Tail.{still_same, tail}
use Rattle.terminal_laws.proofs.OneBlock.Acts.{unjoined_is_own, unjoined_supersedes}
use Rattle.terminal_laws.proofs.OneBlock.Stretch.{
  Span,
  is_open,
  is_gone,
  onward,
  span_faulted,
}

-- ---- one stretch

module _ (Spent : Block → Type 0) (start : Card) (message : OpenMessage) where
  -- it moves neither table nor station nor flags
  same_own : {here : Card} (heard : Word) → Span Spent start message here
      → own_command here.core.station here.core.flags heard
      ≡ own_command start.core.station start.core.flags heard
  unfolding with_message with_status
  same_own heard (is_open stage second taken agree) = refl
  same_own heard (is_gone status but agree) = refl

  same_table : {here : Card} → Span Spent start message here
      → here.core.table ≡ start.core.table
  unfolding with_message with_status
  same_table (is_open stage second taken agree) = refl
  same_table (is_gone status but agree) = refl

  -- an own command that is unjoined opens its message on a card where the first message has closed
  record Superseding (command : Word) (here : Card) : Type 0 where
    left : Card
    span : Span Spent start message left
    idle : left.core.message ≡ None
    is : step (word command) here ≡ opens command left

  supersedes : kind_of message.command ≡ Receive → Spent message.block
      → {here : Card} (command : Word) → Span Spent start message here
      → own_command here.core.station here.core.flags command ≡ true
      → command.joined ≡ false → Superseding command here
  unfolding step word_step word_done faulted closing with_message with_status further
  supersedes receives spent command (is_open {ram} stage second taken agree) own unjoined =
      let here : Card = onward start message stage second taken ram in
      let on : OpenMessage = further stage second taken message in
      record {
        left = faulted (asks message) 7 command.time on here;
        span =
            span_faulted start message receives spent stage second taken ram agree 7
            command.time;
        idle = refl;
        is =
            ap (λ (act : WordAct). word_done act (asks message) on command here)
            (unjoined_supersedes start.core.station start.core.flags
            (asks message) on command own unjoined);
      }
  supersedes receives spent {here} command (is_gone status but agree) own unjoined =
      record {
        left = here;
        span = is_gone status but agree;
        idle = refl;
        is = ap (λ (mine : Bool). cond mine (opens command here) (quietly here)) own;
      }

-- ---- two stretches, from cards that are related

-- the cards are related at once, or the next command makes them so
pub data Meet (Spent : Block → Type 0) (here there : Card) : List Event → Type 0 where
  at_once : {after : List Event} → Related Spent true here there → Meet Spent here there after
  at_next : {after : List Event} (command : Word)
      → StillRelated Spent true here.core.message
      (step (word command) here) (step (word command) there)
      → Meet Spent here there (word command ∷ after)

open_is_not_idle : {message : OpenMessage} → Some message ≡ None → ⊥
open_is_not_idle is = clash (cc)

module _ {Spent : Block → Type 0} {before : Bool} (start start' : Card) (message : OpenMessage)
    (related : Related Spent before start start') where
  -- both messages have closed: the remembered statuses are the same but for the message error bit
  pub both_gone : {here there : Card}
      → Span Spent start message here → Span Spent start' message there
      → here.core.message ≡ None → there.core.message ≡ None → Related Spent true here there
  unfolding with_message with_status
  both_gone (is_open stage second taken agree) span idle idle' = absurd (open_is_not_idle idle)
  both_gone (is_gone status but agree) (is_open stage second taken agree') idle idle' =
      absurd (open_is_not_idle idle')
  both_gone (is_gone status but agree) (is_gone status' but' agree') idle idle' =
      let statuses : without_error start.core.status ≡ without_error start'.core.status =
      same_but_error related.statuses
      ∙ ap (λ (core : Core). without_error core.status) (sym related.core) in
      record {
        status = status';
        core =
            ap (λ (core : Core). with_status status' (with_message None core)) related.core;
        queue = same_closed related.queue (asks message) message;
        statuses = but_error asking_none (but ∙ statuses ∙ sym but');
        cells =
            agree_trans (agree_sym agree)
            (agree_trans
            (both_linked message.moved message.block message.table
            (asks message).cell related.cells)
            agree');
      }

  module _ (receives : kind_of message.command ≡ Receive) (spent : Spent message.block) where
    -- the next command is unjoined, and opens a message in the first run
    next_supersedes : {here there : Card} (command : Word)
        → Span Spent start message here → Span Spent start' message there
        → (step (word command) here).opened ≢ none → command.joined ≡ false
        → (Spent here.core.table → ⊥)
        → StillRelated Spent true here.core.message
        (step (word command) here) (step (word command) there)
    unfolding with_status
    next_supersedes {here} {there} command span span' opening unjoined unspent =
        let own = unjoined_is_own command unjoined here opening in
        let own' : own_command there.core.station there.core.flags command ≡ true =
        same_own Spent start' message command span'
        ∙ ap (λ (core : Core). own_command core.station core.flags command) related.core
        ∙ sym (same_own Spent start message command span)
        ∙ own in
        let first = supersedes Spent start message receives spent command span own unjoined in
        let second = supersedes Spent start' message receives spent command span' own' unjoined in
        let unspent' : Spent first.left.core.table → ⊥ =
        λ on_table. unspent
        (subst Spent
        (same_table Spent start message first.span
        ∙ sym (same_table Spent start message span)) on_table) in
        let opened : StillRelated Spent true here.core.message (opens command first.left)
        (opens command second.left) =
        record {
          answer = same;
          related =
              related_opening command unspent'
              (both_gone first.span second.span first.idle second.idle);
        } in
        rw (first.is, second.is) opened

    pub stretches_meet : {here there : Card} (after : List Event)
        → Span Spent start message here → Span Spent start' message there
        → BothOver here there after → Spared Spent after here → Meet Spent here there after
    unfolding Spared
    stretches_meet after span span' (closed idle idle') spared =
        at_once (both_gone span span' idle idle')
    stretches_meet after span span' (superseded command opening unjoined) spared =
        at_next command (next_supersedes command span span' opening unjoined spared.0)

-- what the common tail makes of it
pub meet_later : {Spent : Block → Type 0} {here there : Card} (after : List Event)
    → Meet Spent here there after → Spared Spent after here → Later Spent true after here there
unfolding Spared Later
meet_later after (at_once related) spared = tail after spared related
meet_later {here = here} {there = there} after (at_next {after = rest} command good) spared = (
  still_same here.core.message (word command) here there spared.1 good,
  tail rest spared.2 good.related,
)
