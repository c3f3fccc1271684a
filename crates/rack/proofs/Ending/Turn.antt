-- A terminal behind a turn that leaves nothing open: it is idle, what it says is proper, and it
-- says nothing if the command that it could answer is to another station. Assumes nothing.
use Rattle.std.proofs.Common.{None}
use mathlib.Core.Path.{◌≡◌, sym, subst, ◌∙◌}
use mathlib.Core.Logic.{◌≢◌}
use mathlib.Core.Bool.{Bool}
use Prim.Native.Nat.{ℕ}
use Rattle.bus.specs.Command.{address_of}
use Rattle.message.specs.declared.state.Stage.{Stage}
use Rattle.terminal.specs.State.{Card}
use Rattle.terminal.specs.Event.{Outcome}
use Rattle.terminal_laws.specs.AtRest.{WholeAndFit}
use Rattle.terminal_laws.specs.OwnStatus.{OwnStatus}
use Rattle.rack.specs.Segment.{Spoken, Nothing}
use Rattle.rack.specs.Hearing.{Stamps, turn_of, said_after}
use Rattle.rack.specs.Asked.{IsIdle}
use Rattle.rack.proofs.Terminal.Own.{idle_station}
use Rattle.rack.proofs.Terminal.Hear.{turn_whole_and_fit, turn_own_status}
use Rattle.rack.proofs.Ending.Stages.{Plain}
use Rattle.rack.proofs.Ending.Silence.{Says, nothing, a_reply}
use Rattle.rack.proofs.Ending.Station.{turn_keeps_station}
use Rattle.rack.proofs.Ending.Proper.{Proper, silent, replies, Settled}

module _ (line : Bool) (stamps : Stamps) (spoken : Spoken) (old : Card) where
  abbrev outcome : Outcome
  outcome = turn_of line stamps spoken old

  module _ (sound : WholeAndFit old) (own : OwnStatus old.core)
      {Holds : ℕ → Stage → Type 0} where
    pub settles : outcome.card.core.message ≡ None → Says line Holds outcome → Settled outcome
    settles is says = record { idle = idle; proper = proper says }
      where
        idle : IsIdle outcome.card
        idle =
            record {
              rest =
                  record {
                    whole_and_fit = turn_whole_and_fit line stamps spoken old sound;
                    idle = is;
                  };
              status = turn_own_status line stamps spoken old sound own;
            }

        proper : Says line Holds outcome → Proper (said_after outcome)
        proper (nothing none) = subst Proper (sym none) silent
        proper (a_reply command stage words said home plain holds) =
            subst Proper (sym said) (replies idle.status (idle_station outcome.card idle))

  module _ {Holds : ℕ → Stage → Type 0} where
    -- the commands that are answered
    pub silent_if : Says line Holds outcome
        → ((command : ℕ) (stage : Stage) → Plain stage → Holds command stage
        → address_of command ≢ old.core.station)
        → said_after outcome ≡ Nothing
    silent_if (nothing none) elsewhere = none
    silent_if (a_reply command stage words said home plain holds) elsewhere =
        absurd (elsewhere command stage plain holds
        (home ∙ turn_keeps_station line stamps spoken old))
