-- The words that a reply of the library's silence sends are those in memory at the silence, though
-- they are read after it: `words_of_the_silence_action`. Assumes nothing.
use mathlib.Core.Path.{◌≡◌, refl}
use mathlib.Core.Bool.{Bool, true, false, cond, not}
use Prim.Native.Nat.{ℕ}
use lib.Dec.{eqb, leb}
use Rattle.terminal.specs.declared.state.Reply.{Reply}
use Rattle.terminal.specs.declared.state.Reply.TheVariants.{Silent}
use Rattle.terminal.specs.declared.state.Answer.TheVariants.{Replied}
use Rattle.terminal.specs.State.{Card}
use Rattle.terminal.specs.Event.{silence}
use Rattle.terminal.specs.Reply.{reply_words}
use Rattle.terminal.specs.Machine.{step}
use Rattle.terminal.specs.Fitness.{fit_card}
use Rattle.terminal_laws.proofs.ReplyLaws.{words_of_the_silence}
use Rattle.actions.specs.Actions.{After, after, took, whole_card, with_memory, silence_action}

-- where the action refuses, it leaves memory as it was
pub words_of_the_silence_action : (line time : ℕ) (old : Card) (reply : Reply)
    → (silence_action line time old).answer ≡ Replied reply
    → reply_words (silence_action line time old).card.ram reply ≡ reply_words old.ram reply
unfolding silence_action with_memory
words_of_the_silence_action line time old reply =
    go (whole_card old) (fit_card old) (leb line 1)
  where
    acted : Bool → Bool → Bool → After
    acted whole fit ordered =
        cond (not whole) (after 1 (Replied Silent) old)
        (cond (not fit) (after 4 (Replied Silent) old)
        (cond (not ordered) (after 8 (Replied Silent) old)
        (took (step (silence (eqb line 1) time) old))))

    go : (whole fit ordered : Bool) → (acted whole fit ordered).answer ≡ Replied reply
        → reply_words (acted whole fit ordered).card.ram reply ≡ reply_words old.ram reply
    go false fit ordered replied = refl
    go true false ordered replied = refl
    go true true false replied = refl
    go true true true replied = words_of_the_silence (eqb line 1) time old reply replied
