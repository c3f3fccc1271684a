-- How many words an open message takes and stores. Definitions only. Assumes nothing.
use Rattle.std.specs.Prelude.{cond, ℕ}
use Rattle.message.specs.declared.state.Stage.{Stage}
use Rattle.message.specs.declared.state.Stage.TheVariants.{
  Data,
  SecondCommand,
  AwaitingStatus,
  Skipping,
}
use Rattle.message.specs.declared.state.OpenMessage.{OpenMessage}
use Rattle.message.specs.Asked.{asks, keeps_back}

-- as many as its command asks for, while it is in its data and does not keep them back
abbrev pub wants_in : Stage → OpenMessage → ℕ
wants_in Data message = cond (keeps_back (asks message) message) 0 (asks message).takes
wants_in SecondCommand message = 0
wants_in AwaitingStatus message = 0
wants_in Skipping message = 0

abbrev pub wants : OpenMessage → ℕ
wants message = wants_in message.stage message
