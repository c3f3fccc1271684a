-- What an opening fixes, in full: the open message, with a second command too, and how the event
-- says that it opened, a word of the theorems. No row of `vectors` shows these. Assumes nothing.
use Rattle.std.proofs.Common.{None, Option, Some, ℕ}
use mathlib.Core.Path.{◌≡◌, refl}
use mathlib.Core.Bool.{true, false}
use mathlib.Core.List.{List, [], ◌∷◌, map}
use Rattle.card.specs.Memory.{the_block}
use Rattle.message.specs.declared.state.Stage.{Stage}
use Rattle.message.specs.declared.state.Stage.TheVariants.{Data, SecondCommand}
use Rattle.message.specs.declared.state.OpenMessage.{OpenMessage}
use Rattle.terminal.specs.Event.{Event, Opened, none, keeping, afresh}
use Rattle.runs.proofs.Telling.{
  runs,
  command_a,
  joined_a,
  receive,
  word1,
  chained,
  last_outcome,
  card_after,
}

-- ---- the open message

-- block and bit 14 are those of the table word 4002; the table block and the stamp are kept
abbrev opened : Option ℕ → Stage → OpenMessage
opened second stage =
    record {
      command = 0x2862;
      line = false;
      block = the_block 2;
      table = the_block 1;
      moved = false;
      busy = false;
      queued = true;
      opened = 0x28;
      taken = 0;
      second = second;
      stage = stage;
    }

an_open_message_in_full : (card_after (receive ∷ [])).core.message ≡ Some (opened None Data)
unfolding runs
an_open_message_in_full = refl

-- rule 6: station 9 is told to send two words from its subaddress 1
the_second_command_is_kept : (card_after (receive ∷ joined_a 0x4C22 0x3C ∷ [])).core.message
    ≡ Some (opened (Some 0x4C22) SecondCommand)
unfolding runs
the_second_command_is_kept = refl

-- ---- how an event says that it opened

abbrev opened_by : List Event → Opened
opened_by events = (last_outcome events chained).opened

-- a receive command; an illegal code 2, direction 0; legal codes 2 and 18, which keep remembered
-- status; a data word; a command that supersedes
each_event_says_whether_it_opened :
    map opened_by
    ((receive ∷ [])
    ∷ (command_a 0x2802 0x28 ∷ [])
    ∷ (command_a 0x2C02 0x28 ∷ [])
    ∷ (command_a 0x2C12 0x28 ∷ [])
    ∷ (receive ∷ word1 ∷ [])
    ∷ (receive ∷ command_a 0x2C62 0x3C ∷ [])
    ∷ [])
    ≡ afresh ∷ afresh ∷ keeping ∷ keeping ∷ none ∷ afresh ∷ []
unfolding runs
each_event_says_whether_it_opened = refl
