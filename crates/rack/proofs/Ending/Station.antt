-- A terminal keeps its station, whatever it hears. Assumes nothing.
use Rattle.std.proofs.Common.{None, Option, Some}
use mathlib.Core.Path.{◌≡◌, refl, ◌∙◌}
use mathlib.Core.Bool.{Bool, true, false, cond}
use mathlib.Core.List.{List, [], ◌∷◌}
use Prim.Native.Nat.{ℕ}
use Rattle.bus.specs.declared.word.Word.{Word}
use Rattle.message.specs.declared.asked.Asked.{Asked}
use Rattle.message.specs.declared.judge.WordAct.{WordAct}
use Rattle.message.specs.declared.judge.WordAct.TheVariants.{
  Ignore,
  Store,
  Check,
  TakeSecond,
  TakeStatus,
  Fault,
  Supersede,
  Drop,
}
use Rattle.message.specs.declared.judge.SilenceAct.{SilenceAct}
use Rattle.message.specs.declared.judge.SilenceAct.TheVariants as silences
use Rattle.message.specs.declared.state.OpenMessage.{OpenMessage}
use Rattle.message.specs.Asked.{asks}
use Rattle.message.specs.Words.{own_command}
use Rattle.terminal.specs.State.{Card, with_status, with_last, with_switches, with_message}
use Rattle.terminal.specs.Opening.{opened_core, opening}
use Rattle.terminal.specs.Closing.{closing, faulted, ended}
use Rattle.terminal.specs.Event.{word, opens, quietly}
use Rattle.terminal.specs.WordStep.{word_done, word_met, word_step}
use Rattle.terminal.specs.SilenceStep.{silence_done, silence_met, silence_step}
use Rattle.terminal.specs.Machine.{step}
use Rattle.terminal_laws.specs.Closes.{word_judged, silence_judged}
use Rattle.rack.specs.Segment.{Spoken, at_station}
use Rattle.rack.specs.Hearing.{Stamps, hears, turn_of}

-- ---- a word

word_done_lem : (act : WordAct) (asked : Asked) (message : OpenMessage) (heard : Word) (old : Card)
    → (word_done act asked message heard old).card.core.station ≡ old.core.station
unfolding word_done opening opened_core faulted closing with_message with_last with_status
word_done_lem Ignore asked message heard old = refl
word_done_lem (Store taken) asked message heard old = refl
word_done_lem (Check taken) asked message heard old = refl
word_done_lem (TakeSecond value) asked message heard old = refl
word_done_lem TakeStatus asked message heard old = refl
word_done_lem (Fault code) asked message heard old = refl
word_done_lem Supersede asked message heard old = refl
word_done_lem Drop asked message heard old = refl

word_met_lem : (message : Option OpenMessage) (heard : Word) (old : Card)
    → (word_met message heard old).card.core.station ≡ old.core.station
unfolding opening opened_core with_message with_last with_status
word_met_lem None heard old = go (own_command old.core.station old.core.flags heard)
  where
    go : (own : Bool)
        → (cond own (opens heard old) (quietly old)).card.core.station ≡ old.core.station
    go true = refl
    go false = refl
word_met_lem (Some message) heard old =
    word_done_lem (word_judged old message heard) (asks message) message heard old

words_heard : (words : List Word) (old : Card)
    → (hears words old).core.station ≡ old.core.station
unfolding hears step word_step
words_heard [] old = refl
words_heard (heard ∷ words) old =
    words_heard words (step (word heard) old).card ∙ word_met_lem old.core.message heard old

-- ---- a silence

silence_done_lem : (act : SilenceAct) (asked : Asked) (message : OpenMessage) (time : ℕ)
    (old : Card)
    → (silence_done act asked message time old).card.core.station ≡ old.core.station
unfolding silence_done faulted ended closing with_message with_status with_switches
silence_done_lem silences.Ignore asked message time old = refl
silence_done_lem silences.AwaitStatus asked message time old = refl
silence_done_lem (silences.Fault code) asked message time old = refl
silence_done_lem silences.End asked message time old = refl

silence_met_lem : (message : Option OpenMessage) (line : Bool) (time : ℕ) (old : Card)
    → (silence_met message line time old).card.core.station ≡ old.core.station
silence_met_lem None line time old = refl
silence_met_lem (Some message) line time old =
    silence_done_lem (silence_judged message line) (asks message) message time old

-- ---- a turn

pub turn_keeps_station : (line : Bool) (stamps : Stamps) (spoken : Spoken) (old : Card)
    → (turn_of line stamps spoken old).card.core.station ≡ old.core.station
unfolding turn_of step silence_step
turn_keeps_station line stamps spoken old =
    let words : List Word = at_station line stamps.word spoken old.core.station in
    silence_met_lem (hears words old).core.message line stamps.silence (hears words old)
    ∙ words_heard words old
