-- One broken message costs one block: `one_block`, as `specs/OneBlock.antt` says it, and
-- `one_block_related`, for any related cards on which a data receive is open and any set of spent
-- blocks that its block is of, so that it serves again after a broken message. Assumes nothing.
use Rattle.std.proofs.Common.{Option, Some}
use mathlib.Core.Path.{◌≡◌, refl, sym, ap, subst, ◌∙◌}
use mathlib.Core.Bool.{Bool, false}
use mathlib.Core.List.{List, ◌∷◌}
use Rattle.bus.specs.declared.kind.Kind.TheVariants.{Receive}
use Rattle.bus.specs.declared.word.Word.{Word}
use Rattle.bus.specs.Kind.{kind_of}
use Rattle.card.specs.declared.place.Block.{Block}
use Rattle.message.specs.declared.state.OpenMessage.{OpenMessage}
use Rattle.message.specs.Message.{further}
use Rattle.terminal.specs.declared.state.Core.{Core}
use Rattle.terminal.specs.State.{Card, card, with_status, with_message}
use Rattle.terminal.specs.Opening.{opened_message, opened_core, opened_as, opening}
use Rattle.terminal.specs.Event.{Event, word, Outcome}
use Rattle.terminal.specs.Machine.{step, run}
use Rattle.terminal_laws.specs.OneBlock.{
  SameAfter,
  Calm,
  BothOver,
  Spared,
  ThatBlock,
  BrokenMessage,
}
use Rattle.terminal_laws.proofs.OneBlock.Agreement.{agree_refl}
use Rattle.terminal_laws.proofs.OneBlock.Relation.{Related, related_self, related_alike}
use Rattle.terminal_laws.proofs.OneBlock.Stretch.{Span, is_open, span_run}
use Rattle.terminal_laws.proofs.OneBlock.Meeting.{both_gone, stretches_meet, meet_later}
use Rattle.terminal_laws.proofs.OneBlock.Opened.{word_opens}

-- ---- from an open data receive on

-- a stretch begins where the message is open
begins : {Spent : Block → Type 0} (start : Card) (message : OpenMessage)
    → start.core.message ≡ Some message → Span Spent start message start
unfolding with_message further
begins {Spent} start message is =
    subst
    (λ (held : Option OpenMessage). Span Spent start message
    (card (with_message held start.core) start.queue start.ram))
    (sym is)
    (is_open message.stage message.second message.taken (agree_refl start.ram))

module _ {Spent : Block → Type 0} {before : Bool} (start start' : Card) (message : OpenMessage)
    (related : Related Spent before start start') (one two after : List Event) where
  pub one_block_related : start.core.message ≡ Some message
      → kind_of message.command ≡ Receive → Spent message.block
      → Calm one start → Calm two start'
      → BothOver (run one start) (run two start') after → Spared Spent after (run one start)
      → SameAfter Spent after (run one start) (run two start')
  unfolding with_status
  one_block_related is receives spent calm calm' both_over spared =
      let is' : start'.core.message ≡ Some message =
      ap (λ (core : Core). core.message) related.core ∙ is in
      let span = span_run start message receives spent one calm (begins start message is) in
      let span' = span_run start' message receives spent two calm' (begins start' message is') in
      record {
        at_once = λ idle idle'.
            related_alike (both_gone start start' message related span span' idle idle');
        later =
            meet_later after
            (stretches_meet start start' message related receives spent after span span' both_over
            spared)
            spared;
      }

-- ---- as stated, over events: whatever card the command meets

pub one_block : (old : Card) (command : Word) (one two after : List Event)
    → BrokenMessage old command one two after
    → SameAfter (ThatBlock (step (word command) old).card.core.message) after
    (run (word command ∷ one) old) (run (word command ∷ two) old)
unfolding run opening opened_core opened_message with_message ThatBlock
one_block old command one two after broken =
    let opened = word_opens command old broken.opens in
    let left : Card = opened.left in
    let held : OpenMessage = opened_as command left.core left.ram in
    let is : (step (word command) old).card.core.message ≡ Some held =
    ap (λ (outcome : Outcome). outcome.card.core.message) opened.is in
    let start = (step (word command) old).card in
    one_block_related {before = false} start start held (related_self start) one two after is
    broken.receives
    (subst (λ (message : Option OpenMessage). ThatBlock message held.block) (sym is) refl)
    broken.calm_one broken.calm_two broken.both_over broken.spared
