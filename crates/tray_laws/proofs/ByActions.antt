-- A run and the library cannot part. Of every recording, over every memory of 16,384 words, a run
-- is what the library's actions make, `run_by_actions`, and they make nothing else,
-- `actions_make_the_run`. So no field that is taken meets a refusal of its action, and one that is
-- refused for what it holds meets the same. Assumes nothing.
use mathlib.Core.Path.{◌≡◌, refl, sym, ap, subst, ◌∙◌}
use mathlib.Core.Bool.{Bool, true, false}
use mathlib.Core.List.{List}
use Prim.Native.Nat.{ℕ, zero, suc, ◌+◌, ◌<◌}
use native.Mathlib.Omega.{arith}
use lib.ListN.{length, drop, length-drop}
use borrow.Author.Tests.{eq-eqb, le-leb, lt-ltb}
use Rattle.bus.specs.Limits.{last_station, all_flags, all_marks, are_marks, last_line, is_line}
use Rattle.card.specs.Memory.{card_blocks, card_words}
use Rattle.card.specs.Host.{most_written, is_write}
use Rattle.terminal.specs.State.{Card}
use Rattle.terminal.specs.Event.{Event, Shown, shown}
use Rattle.terminal.specs.Machine.{step, read_queue_step, move_table_step, set_flags_step}
use Rattle.terminal_laws.specs.AtRest.{WholeAndFit}
use Rattle.actions.specs.Actions.{
  After,
  after,
  took,
  with_memory,
  without_memory,
  word_action,
  silence_action,
  host_write_action,
  read_queue_action,
  move_table_action,
  set_flags_action,
  terminal_at_setup,
  setup_action,
}
use Rattle.recording.specs.declared.field.Field.{Field}
use Rattle.recording.specs.declared.field.Field.TheVariants.{
  Setup,
  Word,
  Silence,
  ReadQueue,
  HostWrite,
  MoveTable,
  SetFlags,
}
use Rattle.recording.specs.Bytes.{words_at}
use Rattle.recording.specs.Field.{is_setup}
use Rattle.recording.specs.Reading.{Reading, Taken, End, Refused, read_at}
use Rattle.recording.specs.Value.{valued_at}
use Rattle.recording.proofs.WordsLaws.{length_words_at}
use Rattle.recording.proofs.TakenLaws.{taken_within}
use Rattle.recording.proofs.InOrder.{InOrder, WriteInOrder, taken_in_order}
use Rattle.pieces.specs.Whole as pieces
use Rattle.tray.specs.Happening.{happening_of, happened}
use Rattle.tray.specs.Run.{
  Tray,
  tray_over,
  shown_line,
  taking,
  taking_line,
  tray_course,
  Whole,
  whole_from,
}
use Rattle.tray_laws.specs.Sound.{SoundTray}
use Rattle.tray_laws.specs.ByActions.{action_of, tray_with, ByActions, acts, ends, refuses}
use Rattle.tray_laws.proofs.PrintedLaws.{whole_of, whole_of_met, whole_by_reading}
use Rattle.tray_laws.proofs.SoundLaws.{start_is_sound, sound_before, taking_is_sound}
use Rattle.tray_laws.proofs.RefusedAlike.{refused_alike}

-- ---- an action that refuses nothing

-- no refusal, and what is seen
abbrev unrefused : Shown → After
unrefused new = after 0 new.answer new.card

memory_taken : (event : Event) (old : Card) (in_order : Bool) → WholeAndFit old
    → in_order ≡ true → with_memory in_order 8 event old ≡ took (step event old)
unfolding with_memory
memory_taken event old in_order sound is =
    rw (eq-eqb (length old.ram) card_words sound.whole_memory, sound.fit, is)

-- the words of a host write in order are 1 to 64, and on the card
words_in_order : (bytes : List ℕ) (place next address first count : ℕ)
    → WriteInOrder place next address first count
    → is_write card_blocks address (length (words_at bytes first count)) ≡ true
words_in_order bytes place next address first count ordered =
    rw (
      length_words_at bytes first count,
      le-leb 1 count ordered.some,
      le-leb count most_written ordered.at_most,
      le-leb (address + count) card_words ordered.on_card,
    )

module _ (bytes : List ℕ) (place next : ℕ) (old : Card) where
  action_taken : (field : Field) → InOrder place next field
      → (is_setup field ≡ false → WholeAndFit old)
      → action_of bytes field old ≡ unrefused (happened (happening_of (valued_at bytes field)) old)
  unfolding action_of happened happening_of valued_at step read_queue_step move_table_step
      set_flags_step
      setup_action word_action silence_action host_write_action read_queue_action move_table_action
      set_flags_action without_memory terminal_at_setup
  action_taken (Setup station table flags) ordered sound =
      rw (
        le-leb station last_station ordered.station_at_most,
        lt-ltb table card_blocks ordered.table_on_card,
        le-leb flags all_flags ordered.flags_at_most,
      )
  action_taken (Word marks value time) ordered sound =
      memory_taken _ old (are_marks marks) (sound refl) (le-leb marks all_marks ordered)
  action_taken (Silence line time) ordered sound =
      memory_taken _ old (is_line line) (sound refl) (le-leb line last_line ordered)
  action_taken ReadQueue ordered sound = rw (sound refl).fit
  action_taken (HostWrite address first count) ordered sound =
      memory_taken _ old _ (sound refl)
      (words_in_order bytes place next address first count ordered)
  action_taken (MoveTable table) ordered sound =
      rw ((sound refl).fit, lt-ltb table card_blocks ordered)
  action_taken (SetFlags flags) ordered sound =
      rw ((sound refl).fit, le-leb flags all_flags ordered)

-- the action of a field that is taken from a sound tray does what the run does
pub field_by_action : (bytes : List ℕ) (place : ℕ) (old : Tray) {field : Field} {next : ℕ}
    → read_at bytes place old.seen ≡ Taken field next → SoundTray old
    → action_of bytes field old.card
    ≡ unrefused (happened (happening_of (valued_at bytes field)) old.card)
field_by_action bytes place old {field} {next} is sound =
    action_taken bytes place next old.card field (taken_in_order bytes place old.seen is)
    (sound_before bytes place old is sound)

-- ---- a run is what the actions make

-- .. if it is so of fewer bytes
by_reading : (rest : Tray → List ℕ → Whole) (old : Tray) (bytes : List ℕ) (reading : Reading)
    → SoundTray old
    → ((new : Tray) (behind : List ℕ) → length behind < length bytes → SoundTray new
    → ByActions new behind (rest new behind))
    → read_at bytes 0 old.seen ≡ reading
    → ByActions old bytes (whole_of reading rest old bytes)
unfolding whole_of taking taking_line
by_reading rest old bytes (Taken field next) sound then is =
    let within = taken_within bytes 0 old.seen is in
    let fewer : length (drop next bytes) < length bytes =
    omega (arith, length-drop next bytes, within.moves_on, within.ends_inside) in
    acts sound is (field_by_action bytes 0 old is sound)
    (then (taking bytes field next old) (drop next bytes) fewer
    (taking_is_sound bytes 0 old is sound next))
by_reading rest old bytes End sound then is = ends sound is
by_reading rest old bytes (Refused number place) sound then is =
    refuses sound is (refused_alike bytes old sound is)

by_turns : (most : ℕ) (old : Tray) (bytes : List ℕ) → length bytes < most
    → SoundTray old → ByActions old bytes (pieces.whole_by tray_course most old bytes)
unfolding pieces.whole_by tray_course
by_turns zero old bytes few sound = absurd (omega (arith, few))
by_turns (suc most) old bytes few sound =
    let reading = read_at bytes 0 old.seen in
    let rest = pieces.whole_by tray_course most in
    subst (ByActions old bytes) (sym (whole_of_met reading rest old bytes))
    (by_reading rest old bytes reading sound
    (λ new behind fewer. by_turns most new behind (omega (arith, few, fewer))) refl)

pub run_by_actions : (ram bytes : List ℕ) → length ram ≡ card_words
    → ByActions (tray_over ram) bytes (whole_from (tray_over ram) bytes)
unfolding pieces.whole_from
run_by_actions ram bytes long =
    by_turns (suc (length bytes)) (tray_over ram) bytes (omega arith) (start_is_sound ram long)

-- ---- the actions make nothing else

pub actions_make_the_run : {old : Tray} {bytes : List ℕ} {made : Whole}
    → ByActions old bytes made → made ≡ whole_from old bytes
unfolding whole_of taking taking_line
actions_make_the_run {old} {bytes}
    (acts {field = field} {next = next} {answer = answer} {new = new} sound is taken more) =
    let same : shown new answer ≡ happened (happening_of (valued_at bytes field)) old.card =
    ap (λ (left : After). shown left.card left.answer)
    (sym taken ∙ field_by_action bytes 0 old is sound) in
    ap (pieces.with_line (shown_line (shown new answer))) (actions_make_the_run more)
    ∙ ap (λ (left : Shown). pieces.with_line (shown_line left)
    (whole_from (tray_with field left.card next old) (drop next bytes))) same
    ∙ sym (whole_by_reading old bytes (Taken field next) is)
actions_make_the_run {old} {bytes} (ends sound is) = sym (whole_by_reading old bytes End is)
actions_make_the_run {old} {bytes} (refuses {number = number} {place = place} sound is alike) =
    sym (whole_by_reading old bytes (Refused number place) is)
