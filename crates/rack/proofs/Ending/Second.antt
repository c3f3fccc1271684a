-- A terminal that is idle or awaits the status of another, behind the next turn: it is idle, and
-- only the command that awaited is answered. Assumes nothing.
use Rattle.std.proofs.Common.{None, Some}
use mathlib.Core.Path.{◌≡◌, refl, ap, sym, subst, ◌∙◌}
use mathlib.Core.Logic.{◌≢◌}
use mathlib.Core.Bool.{Bool}
use mathlib.Core.List.{List, []}
use Prim.Native.Nat.{ℕ, ◌≤◌}
use native.Mathlib.Decide.{ℕ_discrete}
use borrow.Author.Tests.{eq-eqb, ne_eqb}
use Rattle.bus.specs.declared.word.Word.{Word}
use Rattle.bus.specs.Limits.{last_station}
use Rattle.bus.specs.Command.{address_of}
use Rattle.message.specs.declared.state.Stage.{Stage}
use Rattle.message.specs.declared.state.Stage.TheVariants.{SecondCommand}
use Rattle.message.specs.declared.state.OpenMessage.{OpenMessage}
use Rattle.terminal.specs.State.{Card}
use Rattle.terminal.specs.Event.{silence, Outcome, quietly}
use Rattle.terminal.specs.Machine.{step}
use Rattle.terminal_laws.specs.AtRest.{WholeAndFit}
use Rattle.terminal_laws.specs.OwnStatus.{OwnStatus}
use Rattle.rack.specs.Segment.{segment, Spoken, Nothing, Said, words_on, at_station}
use Rattle.rack.specs.Hearing.{Stamps, hears, turn_of, said_after}
use Rattle.rack.specs.Asked.{IsIdle}
use Rattle.rack.proofs.Terminal.Own.{status_is_strange}
use Rattle.rack.proofs.Terminal.Hear.{hears_whole_and_fit}
use Rattle.rack.proofs.Terminal.Quiet.{quiet_says_nothing}
use Rattle.rack.proofs.Lists.Speaker.{SilentElsewhere}
use Rattle.rack.proofs.Ending.Stages.{OfCommand, Waiting}
use Rattle.rack.proofs.Ending.Met.{going}
use Rattle.rack.proofs.Ending.Awaited.{reply_met}
use Rattle.rack.proofs.Ending.Silence.{Behind, over, waits, silence_behind}
use Rattle.rack.proofs.Ending.Proper.{
  Proper,
  silent,
  replies,
  Settled,
  proper_is_unheard,
}
use Rattle.rack.proofs.Ending.Turn.{settles, silent_if}
use Rattle.rack.proofs.Ending.Waits.{IdleOrWaits, rests, awaits}

module _ (line : Bool) (stamps : Stamps) (first : ℕ) (now : Card) where
  pub record SettledThen (spoken : Spoken) : Type 0 where
    pub settled : Settled (turn_of line stamps spoken now)
    pub elsewhere : SilentElsewhere line stamps spoken (address_of first) now

  idle_then : {spoken : Spoken} → Proper spoken → IsIdle now → SettledThen spoken
  idle_then {spoken} proper idle =
      let quiet : turn_of line stamps spoken now ≡ quietly now =
      proper_is_unheard line stamps now proper idle in
      let none : said_after (turn_of line stamps spoken now) ≡ Nothing =
      ap (λ (any : Outcome). said_after any) quiet ∙ quiet_says_nothing now in
      record {
        settled =
            record {
              idle = subst (λ (any : Outcome). IsIdle any.card) (sym quiet) idle;
              proper = subst Proper (sym none) silent;
            };
        elsewhere = λ other. none;
      }

  -- ---- it awaits the status of another

  module _ (sound : WholeAndFit now) (own : OwnStatus now.core) (message : OpenMessage)
      (is_open : now.core.message ≡ Some message) (on_line : message.line ≡ line)
      (waiting : Waiting first message.command message.stage) where
    -- no second command is to be taken, and the command is the first
    by_behind : {Holds : ℕ → Stage → Type 0} {spoken : Spoken}
        → ((command : ℕ) (stage : Stage) → Holds command stage → command ≡ first)
        → ((command : ℕ) → Holds command SecondCommand → ⊥)
        → Behind line Holds (turn_of line stamps spoken now) → SettledThen spoken
    by_behind {spoken = spoken} of_first none_second (over is says) =
        record {
          settled = settles line stamps spoken now sound own is says;
          elsewhere = λ other.
              silent_if line stamps spoken now says
              (λ command stage plain holds same.
              other (sym same ∙ ap (λ (any : ℕ). address_of any) (of_first command stage holds)));
        }
    by_behind of_first none_second (waits message is on_line at holds none) =
        absurd (none_second message.command holds)

    waiting_not : (command : ℕ) → Waiting first command SecondCommand → ⊥
    waiting_not command holds = let never = holds.awaits in cc

    -- nothing is heard
    unheard : {spoken : Spoken} → at_station line stamps.word spoken now.core.station ≡ []
        → SettledThen spoken
    unfolding turn_of hears
    unheard {spoken} none =
        by_behind {Holds = Waiting first} (λ command stage holds. holds.is) waiting_not
        (subst (λ (words : List Word). Behind line (Waiting first)
        (step (silence line stamps.silence) (hears words now))) (sym none)
        (silence_behind line (Waiting first) now stamps.silence sound
        (going message is_open on_line waiting)))

    reply_heard : (speaker status : ℕ) (words : List ℕ) → address_of status ≡ speaker
        → speaker ≤ last_station → speaker ≢ now.core.station
        → SettledThen (Said speaker (segment status None words))
    unfolding turn_of at_station
    reply_heard speaker status words home low other =
        by_behind {Holds = OfCommand first} (λ command stage holds. holds.is)
        (λ command holds. holds.plain)
        (rw (ne_eqb speaker now.core.station other)
        (silence_behind line (OfCommand first)
        (hears (words_on line stamps.word (segment status None words)) now)
        stamps.silence
        (hears_whole_and_fit (words_on line stamps.word (segment status None words)) now sound)
        (reply_met line first status message waiting words stamps.word now is_open on_line
        (status_is_strange speaker status now home low other))))

    waits_then : {spoken : Spoken} → Proper spoken → SettledThen spoken
    unfolding at_station
    waits_then silent = unheard refl
    waits_then (replies {station} {status} {words} home low) =
        elim (ℕ_discrete station now.core.station) [
          | yes same ↦ unheard (rw (eq-eqb station now.core.station same))
          | no other ↦ reply_heard station status words home low other
        ]

  pub settled_then : {spoken : Spoken} → Proper spoken → IdleOrWaits line first now
      → SettledThen spoken
  settled_then proper (rests idle) = idle_then proper idle
  settled_then proper (awaits sound own message is on_line waiting) =
      waits_then sound own message is on_line waiting proper
