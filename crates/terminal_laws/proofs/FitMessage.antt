-- An open message is fit when it opens, `opened_fits`, and it stays fit further on: with one more
-- word, a second command, the wait for its answer, the answer, and when the host has set the table
-- block. Assumes nothing.
use Rattle.std.proofs.Common.{None, Option, Some}
use mathlib.Core.Path.{◌≡◌, refl}
use mathlib.Core.Bool.{Bool, true, false, cond}
use Prim.Native.Nat.{ℕ, ◌+◌, ◌≤◌, ◌<◌}
use native.Mathlib.Omega.{arith}
use lib.Dec.{eqb, leb}
use borrow.Author.Tests.{leb-false}
use Rattle.rules.proofs.Cases.{both}
use Rattle.bus.specs.declared.word.Word.{Word}
use Rattle.card.specs.Memory.{card_blocks, the_block}
use Rattle.card.specs.TableWord.{block_of}
use Rattle.message.specs.declared.state.Stage.{Stage}
use Rattle.message.specs.declared.state.Stage.TheVariants.{
  Data,
  SecondCommand,
  AwaitingStatus,
  Skipping,
}
use Rattle.message.specs.declared.state.OpenMessage.{OpenMessage}
use Rattle.message.specs.Message.{further, moved_message}
use Rattle.message.specs.Asked.{asked_of, asks}
use Rattle.message.specs.Words.{is_second}
use Rattle.message.specs.Fitness.{fit_second, fit_stage, fit_open, fit_message}
use Rattle.terminal.specs.declared.state.Core.{Core}
use Rattle.terminal.specs.Opening.{opened_message}
use Rattle.terminal_laws.proofs.FitParts.{addressed, is_legal, InStage, FitOpen}

-- ---- the message that a word opens

-- a table word names one of 256 blocks, and without a block the number is 0
pub fit_block : (has : Bool) (table_word : ℕ)
    → (cond has (block_of table_word) (the_block 0)).0 < card_blocks
fit_block true table_word = omega arith
fit_block false table_word = omega arith

-- skipping exactly for illegal commands
fit_first_stage : (illegal : Bool) → fit_stage (cond illegal Skipping Data) illegal None 0 ≡ true
fit_first_stage true = refl
fit_first_stage false = refl

-- whatever the table word is
pub opened_fits : (table_word : ℕ) (word : Word) (core : Core)
    → addressed core.station word.value ≡ true → core.table.0 < card_blocks
    → FitOpen core.station
    (opened_message (asked_of word.value) table_word word core)
unfolding opened_message
opened_fits table_word word core to_us table =
    record {
      address = to_us;
      block = fit_block (asked_of word.value).block table_word;
      table = table;
      taken = omega arith;
      second = refl;
      stage = fit_first_stage (asked_of word.value).illegal;
    }

-- ---- the message further on

module _ (station : ℕ) (message : OpenMessage) (fit : FitOpen station message) where
  -- words taken, second command and stage are asked for anew; the rest was fixed at the opening
  further_fits : (stage : Stage) (second : Option ℕ) (taken : ℕ) → taken ≤ (asks message).takes
      → fit_second second station message.command (asks message).receive ≡ true
      → fit_stage stage (asks message).illegal second taken ≡ true
      → FitOpen station (further stage second taken message)
  unfolding further
  further_fits stage second taken few as_taken reached =
      record {
        address = fit.address;
        block = fit.block;
        table = fit.table;
        taken = few;
        second = as_taken;
        stage = reached;
      }

  -- one more of the words that it wants
  pub fits_with_word : is_legal message ≡ true
      → leb (asks message).takes message.taken ≡ false
      → FitOpen station (further Data message.second (message.taken + 1) message)
  fits_with_word legal short =
      further_fits Data message.second (message.taken + 1)
      (omega (arith, leb-false (asks message).takes message.taken short)) fit.second legal

  -- a second command before any word of a data receive
  pub fits_with_second : (value : ℕ) → is_legal message ≡ true
      → (asks message).receive ≡ true → eqb message.taken 0 ≡ true
      → is_second station message.command value ≡ true
      → FitOpen station (further SecondCommand (Some value) message.taken message)
  fits_with_second value legal receive none second =
      further_fits SecondCommand (Some value) message.taken fit.taken
      (both (asks message).receive (is_second station message.command value) receive second)
      (rw (legal, none))

  -- the silence behind a second command
  pub fits_awaiting : InStage SecondCommand message
      → FitOpen station (further AwaitingStatus message.second message.taken message)
  fits_awaiting reached =
      further_fits AwaitingStatus message.second message.taken fit.taken fit.second
      reached

  -- the answering status
  pub fits_with_status : is_legal message ≡ true
      → FitOpen station (further Data message.second message.taken message)
  fits_with_status legal =
      further_fits Data message.second message.taken fit.taken fit.second legal

-- the host has set the table block
pub moved_fits : (station : ℕ) (message : Option OpenMessage)
    → fit_message card_blocks message station ≡ true
    → fit_message card_blocks (moved_message message) station ≡ true
unfolding moved_message fit_open
moved_fits station None fit = refl
moved_fits station (Some message) fit = fit
