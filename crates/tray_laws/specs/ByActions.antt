-- A run by the library's actions: for each field the action that the library has for it, which
-- refuses nothing. What a run does by itself, `happened` and `step`, has no part in it; that the
-- two come to the same is proved in `proofs/ByActions.antt`. Definitions only. Assumes nothing.
use Rattle.std.specs.Prelude.{
  ◌≡◌,
  Bool,
  true,
  ◌||◌,
  Option,
  Some,
  None,
  List,
  ℕ,
  ◌+◌,
  eqb,
  drop,
}
use Rattle.terminal.specs.declared.state.Reply.TheVariants.{Silent}
use Rattle.terminal.specs.declared.state.Answer.{Answer}
use Rattle.terminal.specs.State.{Card, card}
use Rattle.terminal.specs.Event.{replied, shown}
use Rattle.actions.specs.Actions.{
  Done,
  After,
  after,
  alone,
  word_action,
  silence_action,
  host_write_action,
  read_queue_action,
  move_table_action,
  set_flags_action,
  terminal,
  setup_action,
}
use Rattle.recording.specs.declared.tag.Tag.{Tag}
use Rattle.recording.specs.declared.field.Field.{Field}
use Rattle.recording.specs.declared.field.Field.TheVariants.{
  Setup,
  Word,
  Silence,
  ReadQueue,
  HostWrite,
  MoveTable,
  SetFlags,
}
use Rattle.recording.specs.Bytes.{word_at, words_at}
use Rattle.recording.specs.Tag.{tag_at}
use Rattle.recording.specs.Field.{field_at}
use Rattle.recording.specs.Seen.{seen_after}
use Rattle.recording.specs.Reading.{Taken, End, Refused, read_at}
use Rattle.pieces.specs.LastLine.{counted, last_line}
use Rattle.pieces.specs.Whole.{whole, with_line}
use Rattle.tray.specs.Run.{Tray, shown_line, Whole}
use Rattle.tray_laws.specs.Sound.{SoundTray}

-- ---- the library's action for a field

-- setup makes the terminal: it answers nothing, and the memory beside it is as it was
abbrev pub set_up : Done → Card → After
set_up done old =
    after done.refusal (replied Silent)
    (card done.terminal.core done.terminal.queue old.ram)

-- an action to which no memory is lent: the memory is as it was
abbrev pub on_terminal : (Card → After) → Card → After
on_terminal action old =
    let left : After = action (alone (terminal old.core old.queue)) in
    after left.refusal left.answer (card left.card.core left.card.queue old.ram)

unfoldable pub action_of : List ℕ → Field → Card → After
action_of bytes (Setup station table flags) = set_up (setup_action station table flags)
action_of bytes (Word marks value time) = word_action marks value time
action_of bytes (Silence line time) = silence_action line time
action_of bytes ReadQueue = on_terminal read_queue_action
action_of bytes (HostWrite address first count) =
    host_write_action address (words_at bytes first count)
action_of bytes (MoveTable table) = on_terminal (move_table_action table)
action_of bytes (SetFlags flags) = on_terminal (set_flags_action flags)

-- ---- a field that is refused

-- the field at the front of the bytes, by its tag and its length. An unknown tag has no field: the
-- reader refuses it before, and what holds nothing stands for it
abbrev pub first_by : Option Tag → List ℕ → Field
first_by None bytes = ReadQueue
first_by (Some tag) bytes = field_at bytes tag 3 (word_at bytes 1)

abbrev pub first_field : List ℕ → Field
first_field bytes = first_by (tag_at bytes 0) bytes

-- the reader's numbers for what a field holds; its others are for how the field stands in the bytes
abbrev pub is_for_value : ℕ → Bool
is_for_value number = eqb number 2 || eqb number 3 || eqb number 8

-- ---- the run

-- a field was taken that left this card, and the next begins so many bytes further on
abbrev pub tray_with : Field → Card → ℕ → Tray → Tray
tray_with field new size old =
    record {
      seen = seen_after field old.seen;
      card = new;
      fields = counted (old.fields + 1);
      offset = counted (old.offset + size);
    }

-- `ByActions old bytes made`: from `old` on the library's actions make this text and this tray of
-- these bytes, and memory and state are sound before each of them and at the end
pub data ByActions : Tray → List ℕ → Whole → Type 0 where
  -- a field: its action refuses nothing, its answer is printed, and the rest is made from what it
  -- leaves
  acts : {old : Tray} {bytes : List ℕ} {field : Field} {next : ℕ} {answer : Answer} {new : Card}
      {rest : Whole}
      → SoundTray old
      → read_at bytes 0 old.seen ≡ Taken field next
      → action_of bytes field old.card ≡ after 0 answer new
      → ByActions (tray_with field new next old) (drop next bytes) rest
      → ByActions old bytes (with_line (shown_line (shown new answer)) rest)
  -- the end of the bytes
  ends : {old : Tray} {bytes : List ℕ}
      → SoundTray old
      → read_at bytes 0 old.seen ≡ End
      → ByActions old bytes (whole (last_line 0 old.fields old.offset) old)
  -- a field that the reader refuses: if for what it holds, its action refuses it by that number
  refuses : {old : Tray} {bytes : List ℕ} {number place : ℕ}
      → SoundTray old
      → read_at bytes 0 old.seen ≡ Refused number place
      → (is_for_value number ≡ true
      → (action_of bytes (first_field bytes) old.card).refusal ≡ number)
      → ByActions old bytes (whole (last_line number old.fields old.offset) old)
