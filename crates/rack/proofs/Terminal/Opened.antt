-- An own command that an idle terminal hears opens its message, and a fit command's is then in its
-- data; the end of that message leaves what `Took` says. Assumes nothing.
use Rattle.std.proofs.Common.{None, Option}
use mathlib.Core.Path.{◌≡◌, refl, ap, sym, ◌∙◌}
use mathlib.Core.Bool.{Bool, true, false}
use mathlib.Core.List.{List}
use Prim.Native.Nat.{ℕ, ◌<◌}
use Rattle.bus.specs.declared.word.Word.{Word}
use Rattle.card.specs.Memory.{card_blocks}
use Rattle.message.specs.declared.state.Stage.TheVariants.{Data}
use Rattle.message.specs.declared.state.OpenMessage.{OpenMessage}
use Rattle.message.specs.Asked.{asked_of}
use Rattle.message.specs.Words.{own_command}
use Rattle.message.proofs.AskedBounds.{sends_at_most}
use Rattle.terminal.specs.State.{Card, with_status, with_last, with_message}
use Rattle.terminal.specs.Opening.{
  opened_message,
  opened_status,
  opened_core,
  table_word_at,
  opened_as,
  opening,
}
use Rattle.terminal.specs.Event.{word, Outcome}
use Rattle.terminal.specs.WordStep.{word_met, word_step}
use Rattle.terminal.specs.Machine.{step}
use Rattle.terminal_laws.specs.AtRest.{WholeAndFit}
use Rattle.terminal_laws.specs.OwnStatus.{OwnStatus}
use Rattle.terminal_laws.proofs.FitMessage.{fit_block}
use Rattle.rack.specs.Segment.{segment, Said, command_word}
use Rattle.rack.specs.Asked.{Ready, heard_as, is_own, opened_for}
use Rattle.rack.proofs.Terminal.Took.{FitCommand, Took, sent_by}
use Rattle.rack.proofs.Terminal.Sent.{sent_length, sent_cell}
use Rattle.rack.proofs.Terminal.Taken.{AtItsData}
use Rattle.rack.proofs.Terminal.Ended.{Ended}

module _ (line joined : Bool) (command time : ℕ) (old : Card) where
  -- the command as it comes, the message that it opens, and the card then
  abbrev heard : Word
  heard = command_word line joined command time

  abbrev pub message_of : OpenMessage
  message_of = opened_as heard old.core old.ram

  abbrev pub opened_card : Card
  opened_card = opening heard old

  pub own_opens : old.core.message ≡ None → is_own command old ≡ true
      → (step (word heard) old).card ≡ opened_card
  unfolding step word_step own_command
  own_opens idle own =
      ap (λ (met : Option OpenMessage). (word_met met heard old).card) idle ∙ rw own

  -- the message of a legal command is in its data
  pub opened_in_data : (asked_of command).illegal ≡ false → message_of.stage ≡ Data
  unfolding opened_message
  opened_in_data legal = rw legal

  pub opened_at_data : (asked_of command).illegal ≡ false → (opened_for command old).busy ≡ false
      → AtItsData message_of opened_card
  unfolding opening opened_core opened_message with_message
  opened_at_data legal not_busy =
      record {
        is_open = refl;
        in_data_lem = opened_in_data legal;
        none_yet = refl;
        not_busy = not_busy;
      }

  -- the block of the opening is a block of the card
  on_card : (opened_for command old).block.0 < card_blocks
  unfolding opened_message
  on_card =
      fit_block (asked_of command).block (table_word_at (heard_as command) old.core old.ram)

  pub took_at_end : (words : List ℕ) (outcome : Outcome)
      → FitCommand command → Ready line command old
      → WholeAndFit outcome.card → OwnStatus outcome.card.core
      → Ended message_of words opened_card outcome → Took command words old outcome
  unfolding opening opened_core opened_message with_message with_last with_status
  took_at_end words outcome fit ready sound own_status ended =
      let ram = outcome.card.ram in
      let block = (opened_for command old).block in
      let few = sends_at_most command in
      record {
        idle =
            record {
              rest = record { whole_and_fit = sound; idle = ended.idle };
              status = own_status;
            };
        station = ended.station;
        stored = ended.stored;
        kept = ended.kept;
        sent_long = sent_length card_blocks ram block sound.whole_memory on_card _ few;
        sent = sent_cell card_blocks ram block sound.whole_memory on_card _ few;
        silent = ended.silent;
        said = λ to_one.
            ended.said to_one (ready.not_shut to_one) fit.not_last
            ∙ ap (λ (status : ℕ). Said old.core.station
            (segment status None (sent_by command old outcome.card))) (sym ended.status);
      }

-- over another opening, a command that makes status and last command anew opens the same
pub opened_over_another : (another command : Word) (old : Card)
    → (asked_of command.value).fresh ≡ true → (asked_of command.value).last ≡ false
    → opening command (opening another old) ≡ opening command old
unfolding opening opened_core opened_status opened_message with_message with_last with_status
opened_over_another another command old fresh not_last = rw (fresh, not_last)
