-- A word brings no reply: `words_are_silent`. Assumes nothing.
use Rattle.std.proofs.Common.{None, Option, Some}
use mathlib.Core.Path.{◌≡◌, refl}
use mathlib.Core.Bool.{Bool, true, false, cond}
use Rattle.bus.specs.declared.word.Word.{Word}
use Rattle.message.specs.declared.judge.WordAct.{WordAct}
use Rattle.message.specs.declared.judge.WordAct.TheVariants.{
  Ignore,
  Store,
  Check,
  TakeSecond,
  TakeStatus,
  Fault,
  Supersede,
  Drop,
}
use Rattle.message.specs.declared.asked.Asked.{Asked}
use Rattle.message.specs.declared.state.OpenMessage.{OpenMessage}
use Rattle.message.specs.Words.{own_command}
use Rattle.terminal.specs.declared.state.Reply.TheVariants.{Silent}
use Rattle.terminal.specs.State.{Card}
use Rattle.terminal.specs.Event.{replied, opens, quietly}
use Rattle.terminal.specs.WordStep.{word_done, word_met, word_step}

word_done_silent : (act : WordAct) (asked : Asked) (message : OpenMessage) (heard : Word)
    (old : Card)
    → (word_done act asked message heard old).answer ≡ replied Silent
unfolding word_done
word_done_silent Ignore asked message heard old = refl
word_done_silent (Store taken) asked message heard old = refl
word_done_silent (Check taken) asked message heard old = refl
word_done_silent (TakeSecond value) asked message heard old = refl
word_done_silent TakeStatus asked message heard old = refl
word_done_silent (Fault code) asked message heard old = refl
word_done_silent Supersede asked message heard old = refl
word_done_silent Drop asked message heard old = refl

word_met_silent : (message : Option OpenMessage) (heard : Word) (old : Card)
    → (word_met message heard old).answer ≡ replied Silent
word_met_silent None heard old = go (own_command old.core.station old.core.flags heard)
  where
    go : (own : Bool) → (cond own (opens heard old) (quietly old)).answer ≡ replied Silent
    go true = refl
    go false = refl
word_met_silent (Some message) heard old = word_done_silent _ _ message heard old

pub words_are_silent : (heard : Word) (old : Card) → (word_step heard old).answer ≡ replied Silent
unfolding word_step
words_are_silent heard old = word_met_silent old.core.message heard old
