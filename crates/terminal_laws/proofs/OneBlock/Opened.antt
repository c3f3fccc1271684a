-- A word that opens a message opens it on some card: the one that it meets, or what a superseded or
-- dropped message leaves. Assumes nothing.
use Rattle.std.proofs.Common.{None, Option, Some}
use mathlib.Core.Path.{◌≡◌, refl}
use mathlib.Core.Logic.{◌≢◌}
use mathlib.Core.Bool.{Bool, true, false, cond}
use Rattle.bus.specs.declared.word.Word.{Word}
use Rattle.message.specs.declared.judge.WordAct.{WordAct}
use Rattle.message.specs.declared.judge.WordAct.TheVariants.{
  Ignore,
  Store,
  Check,
  TakeSecond,
  TakeStatus,
  Fault,
  Supersede,
  Drop,
}
use Rattle.message.specs.declared.state.OpenMessage.{OpenMessage}
use Rattle.message.specs.Asked.{asks}
use Rattle.message.specs.Words.{own_command, on_word}
use Rattle.terminal.specs.State.{Card}
use Rattle.terminal.specs.Event.{word, none, quietly, opens}
use Rattle.terminal.specs.WordStep.{word_done, word_met, word_step}
use Rattle.terminal.specs.Machine.{step}

-- a word that opens a message opens it on some card
pub record Opening (command : Word) (old : Card) : Type 0 where
  pub left : Card
  pub is : step (word command) old ≡ opens command left

done_opens : (act : WordAct) (message : OpenMessage) (command : Word) (old : Card)
    → (word_done act (asks message) message command old).opened ≢ none
    → step (word command) old ≡ word_done act (asks message) message command old
    → Opening command old
unfolding word_done
done_opens Ignore message command old opening is = absurd (opening refl)
done_opens (Store next) message command old opening is = absurd (opening refl)
done_opens (Check next) message command old opening is = absurd (opening refl)
done_opens (TakeSecond value) message command old opening is = absurd (opening refl)
done_opens TakeStatus message command old opening is = absurd (opening refl)
done_opens (Fault code) message command old opening is = absurd (opening refl)
done_opens Supersede message command old opening is = record { left = _; is = is }
done_opens Drop message command old opening is = record { left = _; is = is }

own_opens : (own : Bool) (command : Word) (old : Card)
    → (cond own (opens command old) (quietly old)).opened ≢ none
    → step (word command) old ≡ cond own (opens command old) (quietly old)
    → Opening command old
own_opens true command old opening is = record { left = old; is = is }
own_opens false command old opening is = absurd (opening refl)

met_opens : (message : Option OpenMessage) (command : Word) (old : Card)
    → (word_met message command old).opened ≢ none
    → step (word command) old ≡ word_met message command old → Opening command old
met_opens None command old opening is =
    own_opens (own_command old.core.station old.core.flags command) command old opening is
met_opens (Some message) command old opening is =
    done_opens
    (on_word old.core.station old.core.flags (asks message) message command)
    message command old opening is

pub word_opens : (command : Word) (old : Card) → (step (word command) old).opened ≢ none
    → Opening command old
unfolding step word_step
word_opens command old opening = met_opens old.core.message command old opening refl
