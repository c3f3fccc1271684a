-- A run that begins over 16,384 words is sound, `start_is_sound`, and every field that it takes
-- leaves it sound, `taking_is_sound`: the memory keeps its words, and the terminal that setup makes
-- stays fit. Assumes nothing.
use mathlib.Core.Path.{◌≡◌, refl, sym, ◌∙◌}
use mathlib.Core.Bool.{true, false, true≢false}
use mathlib.Core.List.{List}
use Prim.Native.Nat.{ℕ}
use lib.ListN.{length}
use borrow.Author.Tests.{not-false}
use Rattle.card.specs.Memory.{card_words, the_block}
use Rattle.terminal.specs.State.{Card}
use Rattle.terminal.specs.Event.{
  word,
  silence,
  read_queue,
  host_write,
  move_table,
  set_flags,
}
use Rattle.terminal_laws.specs.AtRest.{WholeAndFit}
use Rattle.terminal_laws.proofs.FitLaws.{FitEvent}
use Rattle.terminal_laws.proofs.RestLaws.{whole_and_fit_stays}
use Rattle.actions.specs.Actions.{terminal_at_setup}
use Rattle.actions.proofs.SetupLaws.{fit_at_setup}
use Rattle.recording.specs.declared.field.Field.{Field}
use Rattle.recording.specs.declared.field.Field.TheVariants.{
  Setup,
  Word,
  Silence,
  ReadQueue,
  HostWrite,
  MoveTable,
  SetFlags,
}
use Rattle.recording.specs.Field.{is_setup}
use Rattle.recording.specs.Reading.{Taken, read_at}
use Rattle.recording.specs.Value.{valued_at}
use Rattle.recording.proofs.TakenLaws.{setup_by_turn}
use Rattle.recording.proofs.InOrder.{InOrder, taken_in_order}
use Rattle.tray.specs.Happening.{happening_of, happened}
use Rattle.tray.specs.Run.{Tray, tray_over, taking}
use Rattle.tray_laws.specs.Sound.{SoundTray}

-- ---- the start

pub start_is_sound : (ram : List ℕ) → length ram ≡ card_words → SoundTray (tray_over ram)
unfolding tray_over
start_is_sound ram long =
    record { whole_memory = long; fit = λ seen. absurd (true≢false (sym seen)) }

-- ---- a field

-- a setup makes a fit terminal, all else keeps the card fit, and the memory keeps its words
happening_is_sound : (bytes : List ℕ) (field : Field) (place next : ℕ) (old : Card)
    → InOrder place next field → length old.ram ≡ card_words
    → (is_setup field ≡ false → WholeAndFit old)
    → WholeAndFit (happened (happening_of (valued_at bytes field)) old).card
unfolding happened happening_of valued_at FitEvent terminal_at_setup
happening_is_sound bytes (Setup station table flags) place next old in_order long sound =
    record {
      whole_memory = long;
      fit =
          fit_at_setup station (the_block table) flags in_order.station_at_most
          in_order.table_on_card in_order.flags_at_most;
    }
happening_is_sound bytes (Word marks value time) place next old in_order long sound =
    whole_and_fit_stays (word _) old tt (sound refl)
happening_is_sound bytes (Silence line time) place next old in_order long sound =
    whole_and_fit_stays (silence _ time) old tt (sound refl)
happening_is_sound bytes ReadQueue place next old in_order long sound =
    whole_and_fit_stays read_queue old tt (sound refl)
happening_is_sound bytes (HostWrite address first count) place next old in_order long sound =
    whole_and_fit_stays (host_write address _) old tt (sound refl)
happening_is_sound bytes (MoveTable table) place next old in_order long sound =
    whole_and_fit_stays (move_table (the_block table)) old in_order (sound refl)
happening_is_sound bytes (SetFlags flags) place next old in_order long sound =
    whole_and_fit_stays (set_flags flags) old in_order (sound refl)

-- once a setup has been read
pub set_up_is_whole_and_fit : {old : Tray} → SoundTray old → old.seen.setup ≡ true
    → WholeAndFit old.card
set_up_is_whole_and_fit sound set_up_lem =
    record { whole_memory = sound.whole_memory; fit = sound.fit set_up_lem }

module _ (bytes : List ℕ) (place : ℕ) (old : Tray) {field : Field} {next : ℕ}
    (is : read_at bytes place old.seen ≡ Taken field next) (sound : SoundTray old) where
  -- a field that is no setup has one before it
  pub sound_before : is_setup field ≡ false → WholeAndFit old.card
  sound_before other =
      set_up_is_whole_and_fit sound
      (not-false old.seen.setup (sym (setup_by_turn bytes place old.seen is) ∙ other))

  pub taking_is_sound : (size : ℕ) → SoundTray (taking bytes field size old)
  unfolding taking
  taking_is_sound size =
      let new =
      happening_is_sound bytes field place next old.card
      (taken_in_order bytes place old.seen is) sound.whole_memory sound_before in
      record { whole_memory = new.whole_memory; fit = λ _. new.fit }
