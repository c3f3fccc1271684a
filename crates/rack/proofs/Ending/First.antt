-- A terminal behind the words given, whatever these ask: it is idle again behind one command, and
-- behind two of which the first is illegal. Assumes nothing.
use Rattle.std.proofs.Common.{None, Some}
use mathlib.Core.Path.{◌≡◌, ap, sym, ◌∙◌}
use mathlib.Core.Logic.{◌≢◌}
use mathlib.Core.Bool.{Bool, true}
use mathlib.Core.List.{List}
use Prim.Native.Nat.{ℕ}
use Rattle.bus.specs.Command.{address_of}
use Rattle.message.specs.declared.state.Stage.{Stage}
use Rattle.message.specs.declared.state.Stage.TheVariants.{SecondCommand}
use Rattle.message.specs.Asked.{asked_of}
use Rattle.terminal.specs.State.{Card}
use Rattle.rack.specs.Segment.{Segment, segment, Given, words_on, at_station}
use Rattle.rack.specs.Hearing.{Stamps, hears, turn_of}
use Rattle.rack.specs.Asked.{IsIdle}
use Rattle.rack.proofs.Terminal.Hear.{hears_whole_and_fit}
use Rattle.rack.proofs.Lists.Speaker.{SilentElsewhere}
use Rattle.rack.proofs.Ending.Stages.{
  Plain,
  OfFirst,
  OfEither,
  skips,
  takes,
  opened,
  OfGiven,
}
use Rattle.rack.proofs.Ending.Heard.{given_met}
use Rattle.rack.proofs.Ending.Silence.{Behind, over, waits, silence_behind}
use Rattle.rack.proofs.Ending.Proper.{Settled}
use Rattle.rack.proofs.Ending.Few.{SilentBeside}
use Rattle.rack.proofs.Ending.Turn.{settles, silent_if}

pub given_behind : (line : Bool) (stamps : Stamps) (said : Segment) (old : Card) → IsIdle old
    → Behind line (OfGiven said.first said.second) (turn_of line stamps (Given said) old)
unfolding turn_of at_station
given_behind line stamps said old idle =
    silence_behind line (OfGiven said.first said.second)
    (hears (words_on line stamps.word said) old) stamps.silence
    (hears_whole_and_fit (words_on line stamps.word said) old idle.rest.whole_and_fit)
    (given_met line said stamps.word old idle.rest.idle)

module _ (line : Bool) (stamps : Stamps) (first : ℕ) (words : List ℕ) (old : Card) where
  -- ---- one command

  abbrev alone : Segment
  alone = segment first None words

  pub record SettledAlone : Type 0 where
    pub settled : Settled (turn_of line stamps (Given alone) old)
    pub elsewhere : SilentElsewhere line stamps (Given alone) (address_of first) old

  pub settled_alone : IsIdle old → SettledAlone
  settled_alone idle = by_behind (given_behind line stamps alone old idle)
    where
      by_behind : Behind line (OfFirst first) (turn_of line stamps (Given alone) old) → SettledAlone
      by_behind (over is says) =
          record {
            settled =
                settles line stamps (Given alone) old idle.rest.whole_and_fit idle.status is
                says;
            elsewhere = λ other.
                silent_if line stamps (Given alone) old says
                (λ command stage plain holds same.
                other (sym same ∙ ap (λ (any : ℕ). address_of any) holds.is));
          }
      by_behind (waits message is on_line at holds none) = absurd holds.stage_is

  -- ---- two

  module _ (second : ℕ) where
    abbrev both : Segment
    both = segment first (Some second) words

    -- the first is illegal: all are idle again, and two may answer
    pub record SettledBoth : Type 0 where
      pub settled : Settled (turn_of line stamps (Given both) old)
      pub beside : SilentBeside line stamps (Given both) (address_of first) (address_of second) old

    pub settled_both : (asked_of first).illegal ≡ true → IsIdle old → SettledBoth
    settled_both illegal idle = by_behind (given_behind line stamps both old idle)
      where
        answered : old.core.station ≢ address_of first → old.core.station ≢ address_of second
            → (command : ℕ) (stage : Stage) → Plain stage → OfEither first second command stage
            → address_of command ≢ old.core.station
        answered other neither command stage plain (skips _ is at) same =
            other (sym same ∙ ap (λ (any : ℕ). address_of any) is)
        answered other neither command stage plain (takes _ is at) same =
            other (sym same ∙ ap (λ (any : ℕ). address_of any) is)
        answered other neither command stage plain (opened is _) same =
            neither (sym same ∙ ap (λ (any : ℕ). address_of any) is)

        by_behind : Behind line (OfEither first second) (turn_of line stamps (Given both) old)
            → SettledBoth
        by_behind (over is says) =
            record {
              settled =
                  settles line stamps (Given both) old idle.rest.whole_and_fit idle.status
                  is says;
              beside = λ other neither.
                  silent_if line stamps (Given both) old says (answered other neither);
            }
        by_behind (waits message is on_line at holds none) = absurd (waits_not holds)
          where
            waits_not : {command : ℕ} → OfEither first second command SecondCommand → ⊥
            waits_not (skips _ is at) = cc
            waits_not (takes legal is at) = cc
            waits_not (opened is plain) = plain
