-- What the silence leaves behind a segment: nothing open, and perhaps a reply, which has the
-- address of the command; or another's status is awaited, and nothing is said. Assumes nothing.
use Rattle.std.proofs.Common.{None, Option, Some}
use mathlib.Core.Path.{◌≡◌, refl, sym, subst}
use mathlib.Core.Bool.{Bool, true, false, not, ◌&&◌, ◌||◌, beq}
use mathlib.Core.List.{List}
use Prim.Native.Nat.{ℕ}
use lib.Dec.{eqb, ltb}
use borrow.Author.Tests.{eqb-true}
use Rattle.rules.proofs.Cases.{beq_same}
use Rattle.rules.proofs.Choices.{by_test}
use Rattle.bus.specs.Command.{address_of, is_broadcast}
use Rattle.message.specs.declared.judge.SilenceAct.{SilenceAct}
use Rattle.message.specs.declared.judge.SilenceAct.TheVariants.{AwaitStatus, Fault, End}
use Rattle.message.specs.declared.state.Stage.{Stage}
use Rattle.message.specs.declared.state.Stage.TheVariants.{
  Data,
  SecondCommand,
  AwaitingStatus,
  Skipping,
}
use Rattle.message.specs.declared.state.OpenMessage.{OpenMessage}
use Rattle.message.specs.Message.{further}
use Rattle.message.specs.Asked.{asks}
use Rattle.message.specs.Silence.{silence_in_stage, on_silence}
use Rattle.terminal.specs.declared.state.Reply.{Reply}
use Rattle.terminal.specs.State.{Card, with_switches, with_message}
use Rattle.terminal.specs.Closing.{unless_busy, closing, faulted, ended, replies, reply_of}
use Rattle.terminal.specs.Event.{silence, replied, none, Outcome}
use Rattle.terminal.specs.SilenceStep.{silence_done, silence_met, silence_step}
use Rattle.terminal.specs.Machine.{step}
use Rattle.terminal_laws.specs.AtRest.{WholeAndFit}
use Rattle.terminal_laws.proofs.FitParts.{fit_card_parts, open_parts}
use Rattle.terminal_laws.proofs.StepFrame.{silence_step_lem}
use Rattle.rack.specs.Segment.{segment, Nothing, Said}
use Rattle.rack.specs.Hearing.{said_in, said_after}
use Rattle.rack.proofs.Ending.Stages.{Plain}
use Rattle.rack.proofs.Ending.Met.{Met, idle, going}

-- ---- tests of two

first_of_either : (first second : Bool) → (first || second) ≡ true → second ≡ false
    → first ≡ true
first_of_either true second holds fails = refl
first_of_either false second holds fails = cc

-- a reply is given, so the command is no broadcast
to_one_of : (broadcast others : Bool) → not (not broadcast && others) ≡ false
    → broadcast ≡ false
to_one_of true others answers = cc
to_one_of false others answers = refl

module _ (line : Bool) (Holds : ℕ → Stage → Type 0) where
  -- nothing, or the status and words, to a command to this station alone
  pub data Says (outcome : Outcome) : Type 0 where
    nothing : said_after outcome ≡ Nothing → Says outcome
    a_reply : (command : ℕ) (stage : Stage) (words : List ℕ)
        → said_after outcome
        ≡ Said outcome.card.core.station (segment outcome.card.core.status None words)
        → address_of command ≡ outcome.card.core.station → Plain stage → Holds command stage
        → Says outcome

  pub data Behind (outcome : Outcome) : Type 0 where
    over : outcome.card.core.message ≡ None → Says outcome → Behind outcome
    waits : (message : OpenMessage) → outcome.card.core.message ≡ Some message
        → message.line ≡ line → message.stage ≡ AwaitingStatus
        → Holds message.command SecondCommand → said_after outcome ≡ Nothing → Behind outcome

  module _ (now : Card) (sound : WholeAndFit now) (time : ℕ) (message : OpenMessage)
      (is : now.core.message ≡ Some message) (on_line : message.line ≡ line) where
    abbrev done : SilenceAct → Outcome
    done act = silence_done act (asks message) message time now

    -- the command of a message that is no broadcast has the station's address
    home : is_broadcast message.command ≡ false
        → address_of message.command ≡ now.core.station
    home to_one =
        eqb-true (address_of message.command) now.core.station
        (first_of_either _ (is_broadcast message.command)
        (open_parts now.core message (fit_card_parts now sound.fit).core is).address to_one)

    faulted_over : (code : ℕ) → Behind (done (Fault code))
    unfolding silence_done faulted closing with_message said_in
    faulted_over code = over refl (nothing refl)

    -- the sound end, whatever its reply
    abbrev SaysSo : Reply → Type 0
    SaysSo reply =
        Says (record {
          card = ended (asks message) time message now;
          answer = replied reply;
          opened = none;
        })

    end_over : Plain message.stage → Holds message.command message.stage
        → Behind (done End)
    unfolding silence_done ended closing with_message with_switches said_in reply_of replies
    end_over plain holds =
        over refl
        (by_test SaysSo (not (replies now.core message)) (λ _. nothing refl)
        (λ answers.
        let at_home = home (to_one_of (is_broadcast message.command) _ answers) in
        by_test SaysSo (asks message).last
        (λ _. a_reply message.command message.stage _ refl at_home plain holds)
        (λ _. by_test SaysSo (eqb (unless_busy (asks message) message (asks message).sends) 0)
        (λ _. a_reply message.command message.stage _ refl at_home plain holds)
        (λ _. a_reply message.command message.stage _ refl at_home plain holds))))

    awaits_on : Holds message.command SecondCommand → Behind (done AwaitStatus)
    unfolding silence_done further with_message said_in
    awaits_on holds = waits _ refl on_line refl holds refl

    in_stage : (stage : Stage) → message.stage ≡ stage → Holds message.command stage
        → Behind (done (silence_in_stage stage (asks message) message))
    in_stage Data at holds =
        by_test (λ (act : SilenceAct). Behind (done act))
        (ltb message.taken (asks message).takes)
        (λ _. faulted_over 3)
        (λ _. end_over (subst Plain (sym at) tt)
        (subst (λ (any : Stage). Holds message.command any) (sym at) holds))
    in_stage SecondCommand at holds = awaits_on holds
    in_stage AwaitingStatus at holds = faulted_over 2
    in_stage Skipping at holds =
        end_over (subst Plain (sym at) tt)
        (subst (λ (any : Stage). Holds message.command any) (sym at) holds)

    judged : on_silence (asks message) message line
        ≡ silence_in_stage message.stage (asks message) message
    unfolding on_silence
    judged =
        let same : beq line message.line ≡ true = rw on_line (beq_same line) in
        rw same

  idle_behind : (now : Card) (time : ℕ) → now.core.message ≡ None
      → Behind (step (silence line time) now)
  unfolding step silence_step said_in
  idle_behind now time is =
      subst (λ (any : Option OpenMessage). Behind (silence_met any line time now)) (sym is)
      (over is (nothing refl))

  pub silence_behind : (now : Card) (time : ℕ) → WholeAndFit now → Met line Holds now
      → Behind (step (silence line time) now)
  silence_behind now time sound (idle is) = idle_behind now time is
  silence_behind now time sound (going message is on_line holds) =
      subst Behind
      (sym (silence_step_lem now message is line time
      (judged now sound time message is on_line)))
      (in_stage now sound time message is on_line message.stage refl holds)
