-- Each silence brings the controller's message nearer to its end, and so does each turn, whatever
-- is said. Assumes nothing.
use mathlib.Core.Path.{◌≡◌, refl, sym, subst}
use mathlib.Core.Bool.{Bool, true}
use Prim.Native.Nat.{ℕ, suc, ◌≤◌}
use native.Mathlib.Omega.{arith}
use lib.Dec.{ltb}
use Rattle.std.proofs.Common.{Option, Some, None}
use Rattle.rules.proofs.Cases.{beq_same}
use Rattle.rules.proofs.Choices.{by_test}
use Rattle.exchange.specs.declared.order.Order.{Order}
use Rattle.exchange.specs.declared.state.Stage.{Stage}
use Rattle.exchange.specs.declared.state.Stage.TheVariants.{Awaiting, Reply, AwaitingLast, Ended}
use Rattle.exchange.specs.declared.state.Exchange.{Exchange}
use Rattle.exchange.specs.declared.judge.SilenceAct.{SilenceAct}
use Rattle.exchange.specs.declared.judge.SilenceAct.TheVariants.{Fault, GoOn, End}
use Rattle.exchange.specs.Order.{format_for}
use Rattle.exchange.specs.Judge.{silence_heard}
use Rattle.controller.specs.declared.state.OpenMessage.{OpenMessage}
use Rattle.controller.specs.Control.{line_in}
use Rattle.controller.specs.State.{Desk, is_idle, with_message}
use Rattle.controller.specs.Start.{with_order}
use Rattle.controller.specs.Heard.{
  ended,
  words_step,
  silence_in,
  silence_done,
  silence_met,
  silence_step,
}
use Rattle.rack.specs.Segment.{Spoken, at_desk}
use Rattle.rack.specs.Hearing.{Stamps, desk_turn}
use Rattle.rack.proofs.Desk.Starting.{open_desk}
use Rattle.rack.proofs.Desk.Late.{awaits, silences, Late, over, going, words_late}

-- what a silence may do: end the message, or so many silences are still to come
abbrev Within : ℕ → SilenceAct → Type 0
Within most (Fault code) = Unit {0}
Within most (GoOn exchange) = awaits exchange.stage ≤ most
Within most End = Unit {0}

module _ (most : ℕ) (order : Order) where
  silence_within : (stage : Stage) (exchange : Exchange) → awaits stage ≤ suc most
      → Within most (silence_heard stage order exchange)
  unfolding silence_heard
  silence_within Awaiting exchange few = tt
  silence_within Reply exchange few =
      by_test (Within most) (ltb exchange.taken (format_for order).reply) (λ _. tt)
      (λ _. by_test (Within most) (format_for order).last (λ _. omega arith) (λ _. tt))
  silence_within AwaitingLast exchange few = tt
  silence_within Ended exchange few = tt

  in_within : (progress : Option Exchange) → silences progress ≤ suc most
      → Within most (silence_in progress order)
  in_within None few =
      by_test (Within most) (format_for order).status (λ _. omega arith) (λ _. tt)
  in_within (Some exchange) few = silence_within exchange.stage exchange few

done_late : {line : Bool} {most : ℕ} (now : Desk) → line_in now.state.control ≡ line
    → (act : SilenceAct) (message : OpenMessage) → Within most act
    → Late line most (silence_done act message now).desk
unfolding ended with_message
done_late now on_line (Fault code) message few = over refl
done_late now on_line (GoOn exchange) message few = going _ refl on_line few
done_late now on_line End message few = over refl

idle_late : {line : Bool} {most : ℕ} (message : Option OpenMessage) (on : Bool) (now : Desk)
    → is_idle message ≡ true → now.state.message ≡ message
    → Late line most (silence_met message on now).desk
idle_late None on now is same = over (rw same)
idle_late (Some message) on now is same = cc

met_late : (most : ℕ) (now : Desk) (message : OpenMessage)
    → silences message.progress ≤ suc most
    → Late (line_in now.state.control) most
    (silence_met (Some message) (line_in now.state.control) now).desk
met_late most now message few =
    rw (beq_same (line_in now.state.control))
    (done_late now refl (silence_in message.progress message.order) message
    (in_within most message.order message.progress few))

silence_late : (line : Bool) (most : ℕ) (now : Desk) → Late line (suc most) now
    → Late line most (silence_step line now).desk
unfolding silence_step
silence_late line most now (over is) = idle_late now.state.message line now is refl
silence_late line most now (going message is on_line few) =
    subst (λ (any : Bool). Late any most (silence_met now.state.message any now).desk) on_line
    (subst (λ (any : Option OpenMessage). Late (line_in now.state.control) most
    (silence_met any (line_in now.state.control) now).desk) (sym is)
    (met_late most now message few))

-- ---- turns

pub turn_late : (line : Bool) (most : ℕ) (stamps : Stamps) (spoken : Spoken) (now : Desk)
    → Late line (suc most) now → Late line most (desk_turn line stamps spoken now)
unfolding desk_turn
turn_late line most stamps spoken now late =
    silence_late line most (words_step (at_desk line stamps.word spoken) now)
    (words_late (at_desk line stamps.word spoken) now late)

-- a message that begins
pub begins_late : (order : Order) (old : Desk)
    → Late (line_in old.state.control) 3 (open_desk order old)
unfolding with_order
begins_late order old = going _ refl refl (omega arith)

-- more silences are enough too
pub late_still : {line : Bool} {few most : ℕ} {now : Desk} → few ≤ most → Late line few now
    → Late line most now
late_still less (over is) = over is
late_still less (going message is on_line few) = going message is on_line (omega arith)
