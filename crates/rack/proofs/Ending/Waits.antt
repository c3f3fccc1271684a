-- A terminal behind two commands of which the first is legal, whatever they ask: it is idle again,
-- or awaits the status of another, and only the second command is answered. Assumes nothing.
use Rattle.std.proofs.Common.{Some}
use mathlib.Core.Path.{◌≡◌, ap, sym, subst, ◌∙◌}
use mathlib.Core.Logic.{◌≢◌}
use mathlib.Core.Bool.{Bool, false}
use mathlib.Core.List.{List}
use Prim.Native.Nat.{ℕ}
use Rattle.bus.specs.Command.{address_of}
use Rattle.message.specs.declared.state.Stage.{Stage}
use Rattle.message.specs.declared.state.Stage.TheVariants.{SecondCommand}
use Rattle.message.specs.declared.state.OpenMessage.{OpenMessage}
use Rattle.message.specs.Asked.{asked_of}
use Rattle.terminal.specs.State.{Card}
use Rattle.terminal.specs.Event.{Outcome}
use Rattle.terminal_laws.specs.AtRest.{WholeAndFit}
use Rattle.terminal_laws.specs.OwnStatus.{OwnStatus}
use Rattle.rack.specs.Segment.{segment, Spoken, Given}
use Rattle.rack.specs.Hearing.{Stamps, turn_of, said_after}
use Rattle.rack.specs.Asked.{IsIdle}
use Rattle.rack.proofs.Terminal.Hear.{turn_whole_and_fit, turn_own_status}
use Rattle.rack.proofs.Lists.Speaker.{SilentElsewhere}
use Rattle.rack.proofs.Ending.Stages.{Plain, OfEither, skips, takes, opened, Waiting}
use Rattle.rack.proofs.Ending.Silence.{Behind, over, waits}
use Rattle.rack.proofs.Ending.Proper.{Proper, silent, Settled}
use Rattle.rack.proofs.Ending.Turn.{settles, silent_if}
use Rattle.rack.proofs.Ending.First.{given_behind}

-- a terminal that is idle, or awaits the status of another
pub data IdleOrWaits (line : Bool) (first : ℕ) (now : Card) : Type 0 where
  rests : IsIdle now → IdleOrWaits line first now
  awaits : WholeAndFit now → OwnStatus now.core → (message : OpenMessage)
      → now.core.message ≡ Some message → message.line ≡ line
      → Waiting first message.command message.stage → IdleOrWaits line first now

module _ (line : Bool) (stamps : Stamps) (first second : ℕ) (words : List ℕ) (old : Card) where
  abbrev both : Spoken
  both = Given (segment first (Some second) words)

  abbrev outcome : Outcome
  outcome = turn_of line stamps both old

  pub record KeptBoth : Type 0 where
    pub kept : IdleOrWaits line first outcome.card
    pub proper : Proper (said_after outcome)
    pub elsewhere : SilentElsewhere line stamps both (address_of second) old

  -- the first command is not answered
  answered : (asked_of first).illegal ≡ false → old.core.station ≢ address_of second
      → (command : ℕ) (stage : Stage) → Plain stage → OfEither first second command stage
      → address_of command ≢ old.core.station
  answered legal other command stage plain (skips illegal is at) same = cc
  answered legal other command stage plain (takes _ is at) same = subst Plain at plain
  answered legal other command stage plain (opened is _) same =
      other (sym same ∙ ap (λ (any : ℕ). address_of any) is)

  -- the command that has taken the second is the first
  is_first : {command : ℕ} → OfEither first second command SecondCommand → command ≡ first
  is_first (skips illegal is at) = is
  is_first (takes _ is at) = is
  is_first (opened is plain) = absurd plain

  by_behind : (asked_of first).illegal ≡ false → IsIdle old
      → Behind line (OfEither first second) outcome → KeptBoth
  by_behind legal idle (over is says) =
      let settled : Settled outcome =
      settles line stamps both old idle.rest.whole_and_fit idle.status is says in
      record {
        kept = rests settled.idle;
        proper = settled.proper;
        elsewhere = λ other. silent_if line stamps both old says (answered legal other);
      }
  by_behind legal idle (waits message is on_line at holds none) =
      record {
        kept =
            awaits (turn_whole_and_fit line stamps both old idle.rest.whole_and_fit)
            (turn_own_status line stamps both old idle.rest.whole_and_fit idle.status)
            message is on_line (record { is = is_first holds; awaits = at });
        proper = subst Proper (sym none) silent;
        elsewhere = λ other. none;
      }

  pub kept_both : (asked_of first).illegal ≡ false → IsIdle old → KeptBoth
  kept_both legal idle =
      by_behind legal idle
      (given_behind line stamps (segment first (Some second) words) old idle)
