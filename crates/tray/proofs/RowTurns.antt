-- What `take_row` leaves: the turns that are left lead where all of them led (`row_taken_lem`), by
-- the law of every row: a data word is a field that prints nothing, and the terminal stores a row
-- as so many words. Assumes nothing.
use Rattle.std.proofs.Common.{
  ◌≡◌,
  ℕ,
  ◌+◌,
  ◌-◌,
  ◌*◌,
  Bool,
  true,
  ◌≢◌,
  List,
  map,
  sym,
  refl,
  ap,
  ◌∙◌,
  arith,
  Some,
}
use Rattle.bus.specs.declared.word.Word.{Word}
use Rattle.message.specs.declared.state.OpenMessage.{OpenMessage}
use Rattle.message.specs.Wants.{wants}
use Rattle.message.proofs.WantsLaws.{wanting_more}
use Rattle.terminal.specs.State.{Card, card}
use Rattle.terminal.specs.Event.{word}
use Rattle.terminal.specs.Row.{with_taken}
use Rattle.terminal.specs.Machine.{step, run}
use Rattle.terminal.proofs.RowWords.{row_is_words}
use Rattle.terminal.proofs.SilentLaws.{words_are_silent}
use Rattle.recording.specs.declared.seen.Seen.{Seen}
use Rattle.recording.specs.Value.{valued_at}
use Rattle.recording.proofs.FoundLaws.{found_is_read}
use Rattle.rows.specs.declared.Row.{Row}
use Rattle.rows.specs.declared.Taken.{Taken}
use Rattle.rows.specs.Row.{marks_on, word_there, words_taken, RowLeft, row_left, row_taken}
use Rattle.pieces.specs.LastLine.{counted}
use Rattle.pieces.specs.AsCoded.Runner.{TurnsTaken}
use Rattle.rows.specs.Turns.{Hearing}
use Rattle.rows.proofs.FoundLaws.{marks_few, found_next, found_are_data}
use Rattle.rows.proofs.TakenLaws.{found_few}
use Rattle.rows.proofs.TakenLaws as rows
use Rattle.rows.proofs.RowTurns.{nothing_taken, row_is_turns}
use Rattle.tray.specs.declared.run.Tray.{Tray as HeldTray}
use Rattle.tray.specs.Happening.{happening_of, happened}
use Rattle.tray.specs.Run.{Tray, taking, taking_line, met_by, tray_course}
use Rattle.tray.specs.AsCoded.Held.{tray_of}

-- ---- a tray's run hears words

-- a run by its card and counts
abbrev run_over : Seen → Card → ℕ → ℕ → Tray
run_over seen old fields offset =
    record { seen = seen; card = old; fields = fields; offset = offset }

abbrev hears : List Word → Card → Card
hears words old = run (map word words) old

-- every word is a field that prints nothing, wanted or not
abbrev Wants : Bool → ℕ → Card → Type 0
Wants line more old = old ≡ old

tray_hears : (seen : Seen) → seen.setup ≡ true → Hearing tray_course (run_over seen) hears Wants
unfolding run tray_course met_by taking taking_line happened happening_of valued_at step
tray_hears seen after_setup =
    record {
      none_heard = λ old. refl;
      one_heard = λ heard more old. refl;
      is_met = λ line more old fields offset window at value next wants is.
          let ten : next - at ≡ 10 = omega (arith, found_next window line at value next is) in
          rw (
            found_is_read window at (marks_on line) (marks_few line) seen after_setup is,
            words_are_silent (word_there window line at value) old,
            ten,
          );
      wants_on = λ line more old heard wants is_data. refl;
    }

-- ---- a row is as many turns

module _ (old : HeldTray) (message : OpenMessage) (window ram ram' : List ℕ)
    (at room most end : ℕ) (taken : Taken) (is_open : old.core.message ≡ Some message)
    (is_end : end ≡ wants message)
    (is_taken_lem : row_left taken ram'
    ≡ row_taken window at message.line old.seen.setup room most
    (record { block = message.block; cell = message.taken; end = end }) ram) where
  abbrev row : Row
  row = record { block = message.block; cell = message.taken; end = end }

  abbrev found : List Word
  found = words_taken window at message.line row

  abbrev before : Card
  before = card old.core old.queue ram

  -- where no word was found nothing has changed
  pub none_taken : taken.words ≡ 0
      → TurnsTaken tray_course window room most (tray_of old ram) at most (tray_of old ram') at
  none_taken none =
      let same : ram' ≡ ram =
      rows.none_taken window message.line old.seen.setup room most at row ram taken ram'
      is_taken_lem none in
      rw same nothing_taken

  module _ (some : taken.words ≢ 0) where
    tells : rows.SomeTaken window message.line old.seen.setup room most at row ram taken ram'
    tells =
        rows.some_taken window message.line old.seen.setup room most at row ram taken ram'
        is_taken_lem some

    -- the terminal has stored the words that are found
    as_row : card (with_taken taken.cell message old.core) old.queue ram' ≡ hears found before
    as_row =
        ap (λ (any : RowLeft). card (with_taken any.taken.cell message old.core) old.queue any.ram)
        tells.is_row
        ∙ sym (row_is_words found message before is_open
        (wanting_more message message.taken (rw is_end at tells.able.more)).in_data_lem
        (omega (arith, found_few window message.line row at, tells.able.more, is_end))
        (found_are_data window message.line (end - message.taken) at))

    pub row_taken_lem : (new : HeldTray)
        → new
        ≡ record {
          core = with_taken taken.cell message old.core;
          queue = old.queue;
          seen = old.seen;
          fields = counted (old.fields + taken.words);
          offset = counted (old.offset + 10 * taken.words);
        }
        → TurnsTaken tray_course window room most (tray_of old ram) at taken.left (tray_of new ram')
        taken.at
    row_taken_lem new is_new =
        rw is_new
        (row_is_turns (tray_hears old.seen tells.able.after_setup) window message.line row
        old.seen.setup room most at ram ram' taken is_taken_lem some before _ old.fields old.offset
        refl as_row)
