-- Refusal 4: which open messages are fit. Document 01's list, clause by clause; what is not on the
-- list is free. Definitions only. Assumes nothing.
use Rattle.std.specs.Prelude.{Bool, true, not, ◌&&◌, ◌||◌, ℕ, eqb, leb, None, Option, Some, is_some}
use Rattle.bus.specs.Command.{address_of, is_broadcast}
use Rattle.card.specs.Memory.{is_block}
use Rattle.message.specs.declared.state.Stage.{Stage}
use Rattle.message.specs.declared.state.Stage.TheVariants.{
  Data,
  SecondCommand,
  AwaitingStatus,
  Skipping,
}
use Rattle.message.specs.declared.state.OpenMessage.{OpenMessage}
use Rattle.message.specs.Asked.{asks}
use Rattle.message.specs.Words.{is_second}

-- after a second command only data receives, that command as rule 6 takes it
abbrev pub fit_second : Option ℕ → ℕ → ℕ → Bool → Bool
fit_second None station command receive = true
fit_second (Some value) station command receive = receive && is_second station command value

-- a stage that its command can reach: skipping exactly for illegal commands; the second command and
-- the awaiting only with a second command, and no words before the answer
abbrev pub fit_stage : Stage → Bool → Option ℕ → ℕ → Bool
fit_stage Data illegal second taken = not illegal
fit_stage SecondCommand illegal second taken = not illegal && is_some second && eqb taken 0
fit_stage AwaitingStatus illegal second taken = not illegal && is_some second && eqb taken 0
fit_stage Skipping illegal second taken = illegal

-- on a card of so many blocks: the open command's address is the station or 31; its block and table
-- block are blocks of the card; words taken are at most those it wants; and its stage
unfoldable pub fit_open : ℕ → ℕ → OpenMessage → Bool
fit_open blocks station message =
    (eqb (address_of message.command) station || is_broadcast message.command)
    && is_block blocks message.block
    && is_block blocks message.table
    && leb message.taken (asks message).takes
    && fit_second message.second station message.command (asks message).receive
    && fit_stage message.stage (asks message).illegal message.second message.taken

abbrev pub fit_message : ℕ → Option OpenMessage → ℕ → Bool
fit_message blocks None station = true
fit_message blocks (Some message) station = fit_open blocks station message
