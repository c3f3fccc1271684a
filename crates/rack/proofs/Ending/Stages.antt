-- The commands of a segment that a terminal may have open, and the stages of their messages.
-- Definitions only. Assumes nothing.
use Rattle.std.proofs.Common.{None, Option, Some}
use mathlib.Core.Path.{◌≡◌}
use mathlib.Core.Bool.{Bool, true, false}
use Prim.Native.Nat.{ℕ}
use Rattle.message.specs.declared.state.Stage.{Stage}
use Rattle.message.specs.declared.state.Stage.TheVariants.{
  Data,
  SecondCommand,
  AwaitingStatus,
  Skipping,
}
use Rattle.message.specs.Asked.{asked_of}

-- words are taken, or skipped
abbrev pub Plain : Stage → Type 0
Plain Data = Unit {0}
Plain SecondCommand = ⊥
Plain AwaitingStatus = ⊥
Plain Skipping = Unit {0}

-- a message of this command
pub record OfCommand (first command : ℕ) (stage : Stage) : Type 0 where
  pub is : command ≡ first
  pub plain : Plain stage

-- as it was opened: skipping exactly where the command is illegal
abbrev pub AsOpened : Bool → Stage → Type 0
AsOpened illegal Data = illegal ≡ false
AsOpened illegal SecondCommand = ⊥
AsOpened illegal AwaitingStatus = ⊥
AsOpened illegal Skipping = illegal ≡ true

-- a message of the first command, behind it
pub record OfFirst (first command : ℕ) (stage : Stage) : Type 0 where
  pub is : command ≡ first
  pub stage_is : AsOpened (asked_of first).illegal stage

-- behind a second command: the first one is skipped or has taken it, or it opened by itself
pub data OfEither (first second command : ℕ) (stage : Stage) : Type 0 where
  skips : (asked_of first).illegal ≡ true → command ≡ first → stage ≡ Skipping
      → OfEither first second command stage
  takes : (asked_of first).illegal ≡ false → command ≡ first → stage ≡ SecondCommand
      → OfEither first second command stage
  opened : command ≡ second → Plain stage → OfEither first second command stage

-- behind the words given
abbrev pub OfGiven : ℕ → Option ℕ → ℕ → Stage → Type 0
OfGiven first None = OfFirst first
OfGiven first (Some second) = OfEither first second

-- it awaits the status of another
pub record Waiting (first command : ℕ) (stage : Stage) : Type 0 where
  pub is : command ≡ first
  pub awaits : stage ≡ AwaitingStatus
