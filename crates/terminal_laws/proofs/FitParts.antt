-- What refusal 4 asks of an open message, of the core and of the card: `..-parts` takes the test
-- apart into a record, `..-whole` puts it together again. Assumes nothing.
use Rattle.std.proofs.Common.{Some}
use mathlib.Core.Path.{◌≡◌}
use mathlib.Core.Bool.{Bool, true, not, ◌&&◌, ◌||◌}
use Prim.Native.Nat.{ℕ, ◌≤◌, ◌<◌}
use lib.Dec.{eqb, leb}
use borrow.Author.Tests.{leb-true, le-leb, ltb-true, lt-ltb}
use Rattle.rules.proofs.Halves.{first_of_both, second_of_both}
use Rattle.bus.specs.Limits.{last_station, is_station, all_flags, are_flags}
use Rattle.bus.specs.Command.{address_of, is_broadcast}
use Rattle.card.specs.Memory.{card_blocks, is_block}
use Rattle.queue.specs.Queue.{fit_queue}
use Rattle.message.specs.declared.state.Stage.{Stage}
use Rattle.message.specs.declared.state.OpenMessage.{OpenMessage}
use Rattle.message.specs.Asked.{asks}
use Rattle.message.specs.Fitness.{fit_second, fit_stage, fit_open, fit_message}
use Rattle.terminal.specs.declared.state.Core.{Core}
use Rattle.terminal.specs.State.{Card}
use Rattle.terminal.specs.Fitness.{fit_core, fit_card}

-- ---- an open message

-- the address is the station or 31
abbrev pub addressed : ℕ → ℕ → Bool
addressed station command = eqb (address_of command) station || is_broadcast command

-- the command is legal
abbrev pub is_legal : OpenMessage → Bool
is_legal message = not (asks message).illegal

-- the message could have come to the stage
abbrev pub InStage : Stage → OpenMessage → Type 0
InStage stage message =
    fit_stage stage (asks message).illegal message.second message.taken ≡ true

-- what is asked of an open message
pub record FitOpen (station : ℕ) (message : OpenMessage) : Type 0 where
  pub address : addressed station message.command ≡ true
  pub block : message.block.0 < card_blocks
  pub table : message.table.0 < card_blocks
  pub taken : message.taken ≤ (asks message).takes
  pub second : fit_second message.second station message.command
      (asks message).receive ≡ true
  pub stage : InStage message.stage message

-- the test taken apart ..
pub fit_open_parts : (station : ℕ) (message : OpenMessage)
    → fit_open card_blocks station message ≡ true → FitOpen station message
unfolding fit_open
fit_open_parts station message fit =
    let command = message.command in
    let asked = asks message in
    let address = addressed station command in
    let block = is_block card_blocks message.block in
    let table = is_block card_blocks message.table in
    let taken = leb message.taken asked.takes in
    let second = fit_second message.second station command asked.receive in
    let stage =
    fit_stage message.stage asked.illegal message.second message.taken in
    let to_second = first_of_both (address && block && table && taken && second) stage fit in
    let to_taken = first_of_both (address && block && table && taken) second to_second in
    let to_table = first_of_both (address && block && table) taken to_taken in
    let to_block = first_of_both (address && block) table to_table in
    record {
      address = first_of_both address block to_block;
      block = ltb-true message.block.0 card_blocks (second_of_both address block to_block);
      table =
          ltb-true message.table.0 card_blocks
          (second_of_both (address && block) table to_table);
      taken =
          leb-true message.taken asked.takes
          (second_of_both (address && block && table) taken to_taken);
      second = second_of_both (address && block && table && taken) second to_second;
      stage = second_of_both (address && block && table && taken && second) stage fit;
    }

-- .. and put together again
pub fit_open_whole : {station : ℕ} {message : OpenMessage}
    → FitOpen station message → fit_open card_blocks station message ≡ true
unfolding fit_open
fit_open_whole {station} {message} parts =
    rw (
      parts.address,
      lt-ltb message.block.0 card_blocks parts.block,
      lt-ltb message.table.0 card_blocks parts.table,
      le-leb message.taken (asks message).takes parts.taken,
      parts.second,
    ) parts.stage

-- ---- the core

-- what is asked of the core
pub record FitCore (core : Core) : Type 0 where
  pub station : core.station ≤ last_station
  pub table : core.table.0 < card_blocks
  pub flags : core.flags ≤ all_flags
  pub message : fit_message card_blocks core.message core.station ≡ true

-- the test taken apart ..
pub fit_core_parts : (core : Core) → fit_core card_blocks core ≡ true → FitCore core
unfolding fit_core
fit_core_parts core fit =
    let station = is_station core.station in
    let table = is_block card_blocks core.table in
    let flags = are_flags core.flags in
    let message = fit_message card_blocks core.message core.station in
    let to_flags = first_of_both (station && table && flags) message fit in
    let to_table = first_of_both (station && table) flags to_flags in
    record {
      station = leb-true core.station last_station (first_of_both station table to_table);
      table = ltb-true core.table.0 card_blocks (second_of_both station table to_table);
      flags = leb-true core.flags all_flags (second_of_both (station && table) flags to_flags);
      message = second_of_both (station && table && flags) message fit;
    }

-- .. and put together again
pub fit_core_whole : {core : Core} → FitCore core → fit_core card_blocks core ≡ true
unfolding fit_core
fit_core_whole {core} parts =
    rw (
      le-leb core.station last_station parts.station,
      lt-ltb core.table.0 card_blocks parts.table,
      le-leb core.flags all_flags parts.flags,
    ) parts.message

-- the message that is open in a fit core
pub open_parts : (core : Core) (message : OpenMessage)
    → fit_core card_blocks core ≡ true → core.message ≡ Some message
    → FitOpen core.station message
open_parts core message fit is =
    fit_open_parts core.station message (rw is at (fit_core_parts core fit).message)

-- its block and its table block are blocks of the card
pub open_block_fits : (core : Core) (message : OpenMessage)
    → fit_core card_blocks core ≡ true → core.message ≡ Some message
    → (message.block.0 < card_blocks) × (message.table.0 < card_blocks)
open_block_fits core message fit is =
    let parts = open_parts core message fit is in
    (parts.block, parts.table)

-- ---- the card

-- the terminal of the card is fit, core and queue
pub record FitCard (old : Card) : Type 0 where
  pub core : fit_core card_blocks old.core ≡ true
  pub queue : fit_queue card_blocks old.queue ≡ true

-- the test by which the actions refuse, taken apart ..
pub fit_card_parts : (old : Card) → fit_card old ≡ true → FitCard old
fit_card_parts old fit =
    record {
      core = first_of_both (fit_core card_blocks old.core) (fit_queue card_blocks old.queue) fit;
      queue =
          second_of_both (fit_core card_blocks old.core) (fit_queue card_blocks old.queue) fit;
    }

-- .. and put together again
pub fit_card_whole : {old : Card} → FitCard old → fit_card old ≡ true
fit_card_whole {old} parts = rw parts.core parts.queue
