-- How far the controller's message is from its end, in silences: three at the most. No word brings
-- it further away, whatever it is. Assumes nothing.
use mathlib.Core.Path.{◌≡◌, refl, sym, subst}
use mathlib.Core.Bool.{Bool, true, not, beq}
use mathlib.Core.List.{List, [], ◌∷◌}
use Prim.Native.Nat.{ℕ, ◌≤◌}
use native.Mathlib.Omega.{arith}
use lib.Dec.{eqb}
use Rattle.std.proofs.Common.{Option, Some, None}
use Rattle.rules.proofs.Choices.{by_test}
use Rattle.bus.specs.declared.word.Word.{Word}
use Rattle.bus.specs.Command.{address_of}
use Rattle.exchange.specs.declared.order.Order.{Order}
use Rattle.exchange.specs.declared.state.Stage.{Stage}
use Rattle.exchange.specs.declared.state.Stage.TheVariants.{Awaiting, Reply, AwaitingLast, Ended}
use Rattle.exchange.specs.declared.state.Exchange.{Exchange}
use Rattle.exchange.specs.declared.judge.WordAct.{WordAct}
use Rattle.exchange.specs.declared.judge.WordAct.TheVariants.{Take}
use Rattle.exchange.specs.declared.judge.WordAct.TheVariants as heard
use Rattle.exchange.specs.Judge.{
  status_heard,
  data_heard,
  word_heard,
  on_word,
}
use Rattle.controller.specs.declared.state.OpenMessage.{OpenMessage}
use Rattle.controller.specs.Control.{line_in}
use Rattle.controller.specs.State.{Desk, is_idle, with_message}
use Rattle.controller.specs.Heard.{
  Heard,
  ended,
  word_in,
  word_done,
  word_met,
  word_step,
  words_step,
}

-- silences that are to come at the most
abbrev pub awaits : Stage → ℕ
awaits Awaiting = 2
awaits Reply = 2
awaits AwaitingLast = 1
awaits Ended = 1

abbrev pub silences : Option Exchange → ℕ
silences None = 3
silences (Some exchange) = awaits exchange.stage

-- the message is over, or is open on the line and ends after so many silences
pub data Late (line : Bool) (most : ℕ) (now : Desk) : Type 0 where
  over : is_idle now.state.message ≡ true → Late line most now
  going : (message : OpenMessage) → now.state.message ≡ Some message
      → line_in now.state.control ≡ line → silences message.progress ≤ most
      → Late line most now

pub none_left : (line : Bool) (now : Desk) → Late line 0 now → is_idle now.state.message ≡ true
none_left line now (over is) = is
none_left line now (going message is on_line few) = absurd (some message.progress few)
  where
    later : (stage : Stage) → awaits stage ≤ 0 → ⊥
    later Awaiting few = omega arith
    later Reply few = omega arith
    later AwaitingLast few = omega arith
    later Ended few = omega arith

    some : (progress : Option Exchange) → silences progress ≤ 0 → ⊥
    some None few = omega arith
    some (Some exchange) few = later exchange.stage few

-- ---- a word

-- what a word may do: a fault, or so many silences are still to come
abbrev Within : ℕ → WordAct → Type 0
Within most (heard.Fault code) = Unit {0}
Within most (Take cell exchange) = awaits exchange.stage ≤ most

module _ (most : ℕ) (order : Order) (exchange : Exchange) (word : Word) where
  status_within : (cell station : ℕ) (next : Stage) → awaits next ≤ most
      → Within most (status_heard cell station next exchange word)
  unfolding status_heard
  status_within cell station next few =
      by_test (Within most) (not word.sync) (λ _. tt)
      (λ _. by_test (Within most) (not (eqb (address_of word.value) station)) (λ _. tt)
      (λ _. few))

  data_within : (full : Bool) (first : ℕ) → awaits exchange.stage ≤ most
      → Within most (data_heard full first exchange word)
  unfolding data_heard
  data_within full first few =
      by_test (Within most) (not word.joined) (λ _. tt)
      (λ _. by_test (Within most) full (λ _. tt)
      (λ _. by_test (Within most) word.sync (λ _. tt) (λ _. few)))

  word_within : (stage : Stage) → awaits stage ≤ most → awaits exchange.stage ≤ most
      → Within most (word_heard stage order exchange word)
  unfolding word_heard
  word_within Awaiting few still = status_within _ _ Reply few
  word_within Reply few still = data_within _ _ still
  word_within AwaitingLast few still = status_within _ _ Ended few
  word_within Ended few still = data_within true _ still

  on_word_within : awaits exchange.stage ≤ most → Within most (on_word order exchange word)
  unfolding on_word
  on_word_within few =
      by_test (Within most) (not word.sound) (λ _. tt)
      (λ _. word_within exchange.stage few few)

module _ {line : Bool} {most : ℕ} (now : Desk) (word : Word)
    (on_line : line_in now.state.control ≡ line) where
  done_late : (act : WordAct) (message : OpenMessage) → Within most act
      → Late line most (word_done act message word now).desk
  unfolding ended with_message
  done_late (heard.Fault code) message few = over refl
  done_late (Take cell exchange) message few = going _ refl on_line few

  in_late : (progress : Option Exchange) (message : OpenMessage) → silences progress ≤ most
      → Late line most (word_done (word_in progress message.order word) message word now).desk
  in_late None message few =
      by_test (λ act. Late line most (word_done act message word now).desk) (not word.sound)
      (λ _. done_late (heard.Fault 1) message tt) (λ _. done_late (heard.Fault 7) message tt)
  in_late (Some exchange) message few =
      done_late _ message (on_word_within most message.order exchange word few)

  met_late : (message : OpenMessage) → now.state.message ≡ Some message
      → silences message.progress ≤ most
      → Late line most (word_met (Some message) word now).desk
  met_late message is few =
      by_test (λ (any : Heard). Late line most any.desk)
      (beq word.line (line_in now.state.control))
      (λ _. in_late message.progress message few) (λ _. going message is on_line few)

idle_late : {line : Bool} {most : ℕ} (message : Option OpenMessage) (word : Word) (now : Desk)
    → is_idle message ≡ true → now.state.message ≡ message
    → Late line most (word_met message word now).desk
idle_late None word now is same = over (rw same)
idle_late (Some message) word now is same = cc

word_late : {line : Bool} {most : ℕ} (word : Word) (now : Desk) → Late line most now
    → Late line most (word_step word now).desk
unfolding word_step
word_late word now (over is) = idle_late now.state.message word now is refl
word_late {line} {most} word now (going message is on_line few) =
    subst (λ (any : Option OpenMessage). Late line most (word_met any word now).desk) (sym is)
    (met_late now word on_line message is few)

pub words_late : {line : Bool} {most : ℕ} (words : List Word) (now : Desk) → Late line most now
    → Late line most (words_step words now)
unfolding words_step
words_late [] now late = late
words_late (word ∷ words) now late =
    words_late words (word_step word now).desk (word_late word now late)
