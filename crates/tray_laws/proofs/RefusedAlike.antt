-- A field that the reader refuses for what it holds, by 2, 3 or 8, its action refuses by the same
-- number: `refused_alike`. So the reader is no stricter than the library. Assumes nothing.
use mathlib.Core.Path.{◌≡◌, refl, sym, subst}
use mathlib.Core.Bool.{Bool, true, false, cond, not, true≢false}
use mathlib.Core.List.{List}
use Rattle.std.proofs.Common.{Option, Some, None}
use Prim.Native.Nat.{ℕ, ◌+◌, ◌-◌, ◌/◌}
use lib.Dec.{eqb, ltb}
use lib.ListN.{length}
use borrow.Author.Tests.{eq-eqb, not-false}
use Rattle.rules.proofs.Choices.{by_test, choice_under}
use Rattle.bus.specs.Limits.{is_station, are_flags, are_marks, is_line}
use Rattle.card.specs.Memory.{card_blocks, card_words, the_block, is_block}
use Rattle.card.specs.Host.{is_write}
use Rattle.terminal.specs.State.{Card}
use Rattle.terminal.specs.Event.{Event}
use Rattle.terminal_laws.specs.AtRest.{WholeAndFit}
use Rattle.actions.specs.Actions.{
  Done,
  After,
  with_memory,
  without_memory,
  word_action,
  silence_action,
  host_write_action,
  read_queue_action,
  move_table_action,
  set_flags_action,
  setup_action,
}
use Rattle.recording.specs.declared.tag.Tag.{Tag}
use Rattle.recording.specs.declared.tag.Tag.TheVariants as tags
use Rattle.recording.specs.declared.field.Field.{Field}
use Rattle.recording.specs.declared.field.Field.TheVariants.{
  Setup,
  Word,
  Silence,
  ReadQueue,
  HostWrite,
  MoveTable,
  SetFlags,
}
use Rattle.recording.specs.Bytes.{bytes_left, byte_at, word_at, time_at}
use Rattle.recording.specs.Tag.{tag_at, length_fits}
use Rattle.recording.specs.Field.{field_at, value_refusal}
use Rattle.recording.specs.Seen.{is_due}
use Rattle.recording.specs.Reading.{Reading, Taken, End, Refused, read_by, read_at}
use Rattle.recording.proofs.WordsLaws.{length_words_at}
use Rattle.tray.specs.Run.{Tray}
use Rattle.tray_laws.specs.Sound.{SoundTray}
use Rattle.tray_laws.specs.ByActions.{action_of, first_field, is_for_value}
use Rattle.tray_laws.proofs.SoundLaws.{set_up_is_whole_and_fit}

-- ---- each action's number

memory_number : (event : Event) (old : Card) (in_order : Bool) → WholeAndFit old
    → (with_memory in_order 8 event old).refusal ≡ cond (not in_order) 8 0
unfolding with_memory
memory_number event old in_order sound =
    rw (eq-eqb (length old.ram) card_words sound.whole_memory, sound.fit)
    (sym (choice_under (λ (left : After). left.refusal) (not in_order) refl refl))

module _ (bytes : List ℕ) (old : Card) where
  -- the action's number is the reader's
  abbrev SameNumber : Field → Type 0
  SameNumber field = (action_of bytes field old).refusal ≡ value_refusal card_blocks field

  setup_number : (station table flags : ℕ) → SameNumber (Setup station table flags)
  unfolding action_of setup_action
  setup_number station table flags =
      sym (choice_under (λ (done : Done). done.refusal) (not (is_station station)) refl
      (choice_under (λ (done : Done). done.refusal) (not (is_block card_blocks (the_block table)))
      refl
      (choice_under (λ (done : Done). done.refusal) (not (are_flags flags)) refl refl)))

  module _ (sound : WholeAndFit old) where
    word_number : (marks value time : ℕ) → SameNumber (Word marks value time)
    unfolding action_of word_action
    word_number marks value time = memory_number _ old (are_marks marks) sound

    silence_number : (line time : ℕ) → SameNumber (Silence line time)
    unfolding action_of silence_action
    silence_number line time = memory_number _ old (is_line line) sound

    queue_read_number : SameNumber ReadQueue
    unfolding action_of read_queue_action
    queue_read_number = rw sound.fit

    write_number : (address first count : ℕ) → SameNumber (HostWrite address first count)
    unfolding action_of host_write_action
    write_number address first count =
        rw (length_words_at bytes first count)
        (memory_number _ old (is_write card_blocks address count) sound)

    table_number : (table : ℕ) → SameNumber (MoveTable table)
    unfolding action_of move_table_action without_memory
    table_number table =
        rw sound.fit
        (sym (choice_under (λ (left : After). left.refusal)
        (not (is_block card_blocks (the_block table))) refl refl))

    flags_number : (flags : ℕ) → SameNumber (SetFlags flags)
    unfolding action_of set_flags_action without_memory
    flags_number flags =
        rw sound.fit
        (sym (choice_under (λ (left : After). left.refusal) (not (are_flags flags)) refl refl))

-- ---- the reader's number

module _ (bytes : List ℕ) (old : Tray) (sound : SoundTray old) where
  abbrev size : ℕ
  size = word_at bytes 1

  abbrev given : Card
  given = old.card

  set_up_lem : old.seen.setup ≡ true → WholeAndFit given
  set_up_lem = set_up_is_whole_and_fit sound

  -- the first field, by its tag; one that is no setup has one before it, so that the card is fit
  first_number : (tag : Tag) → length_fits tag size ≡ true → is_due tag old.seen ≡ true
      → SameNumber bytes given (field_at bytes tag 3 size)
  unfolding length_fits field_at
  first_number tags.Setup fits due =
      setup_number bytes given (byte_at bytes 3) (byte_at bytes 4) (byte_at bytes 5)
  first_number tags.Word fits due =
      word_number bytes given (set_up_lem due) (byte_at bytes 3) (word_at bytes 4) (time_at bytes 6)
  first_number tags.Silence fits due =
      silence_number bytes given (set_up_lem due) (byte_at bytes 3) (time_at bytes 4)
  first_number tags.ReadQueue fits due = queue_read_number bytes given (set_up_lem due)
  first_number tags.HostWrite fits due =
      write_number bytes given (set_up_lem due) (word_at bytes 3) 5 ((size - 2) / 2)
  first_number tags.MoveTable fits due = table_number bytes given (set_up_lem due) (byte_at bytes 3)
  first_number tags.SetFlags fits due = flags_number bytes given (set_up_lem due) (byte_at bytes 3)

  -- what a reading tells of the action's number
  abbrev Tells : Reading → Type 0
  Tells (Taken field next) = Unit {0}
  Tells End = Unit {0}
  Tells (Refused number place) =
      is_for_value number ≡ true → (action_of bytes (first_field bytes) old.card).refusal ≡ number

  reading_tells : Tells (read_at bytes 0 old.seen)
  unfolding read_at
  reading_tells =
      by_test Tells (eqb (bytes_left bytes 0) 0) (λ _. tt) (λ _. by_tag (tag_at bytes 0) refl)
    where
      -- the number is another
      other : {refusal number : ℕ} → false ≡ true → refusal ≡ number
      other is = absurd (true≢false (sym is))

      by_tag : (tag : Option Tag) → tag_at bytes 0 ≡ tag → Tells (read_by tag bytes 0 old.seen)
      by_tag None unknown = other
      by_tag (Some tag) known =
          by_test Tells (ltb (bytes_left bytes 0) 3) (λ _. other) (λ _.
          by_test Tells (not (length_fits tag size)) (λ _. other) (λ fits.
          by_test Tells (ltb (bytes_left bytes 0) (3 + size)) (λ _. other) (λ _.
          by_test Tells (not (is_due tag old.seen)) (λ _. other) (λ due.
          by_test Tells (eqb (value_refusal card_blocks (field_at bytes tag 3 size)) 0) (λ _. tt)
          (λ _ _. rw known
          (first_number tag (not-false (length_fits tag size) fits)
          (not-false (is_due tag old.seen) due)))))))

  pub refused_alike : {number place : ℕ} → read_at bytes 0 old.seen ≡ Refused number place
      → is_for_value number ≡ true
      → (action_of bytes (first_field bytes) old.card).refusal ≡ number
  refused_alike is = subst Tells is reading_tells
