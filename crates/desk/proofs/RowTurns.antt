-- What `take_row` leaves: the turns that are left lead where all of them led (`row_taken_lem`), by
-- the law of every row: a data word that is wanted is a field that prints nothing, and the
-- controller stores a row as so many words. Assumes nothing.
use Rattle.std.proofs.Common.{Option, Some}
use Rattle.std.proofs.Common.{
  ◌≡◌,
  ℕ,
  ◌+◌,
  ◌-◌,
  ◌*◌,
  ◌≤◌,
  Bool,
  true,
  false,
  eqb,
  ◌≢◌,
  List,
  length,
  sym,
  refl,
  ap,
  ◌∙◌,
  arith,
  ne_eqb,
}
use Rattle.bus.specs.declared.word.Word.{Word}
use Rattle.bus.specs.DataWords.{values_of}
use Rattle.card.specs.declared.place.Block.{Block}
use Rattle.card.specs.Memory.{with_cells}
use Rattle.recording.specs.declared.field.Field.TheVariants.{Word as WordField}
use Rattle.recording.specs.declared.seen.Seen.{Seen}
use Rattle.recording.specs.Bytes.{bytes_left, time_at}
use Rattle.recording.specs.AsCoded.Found.{word_found, found as found_word}
use Rattle.recording.specs.Value.{valued_at}
use Rattle.recording.proofs.FoundLaws.{found_is_read, found_whole, found_tag}
use Rattle.controller.specs.declared.row.Wanted.{Wanted}
use Rattle.controller.specs.State.{Desk, desk}
use Rattle.controller.specs.Heard.{words_step}
use Rattle.controller.specs.Row.{words_wanted, with_taken}
use Rattle.controller.proofs.WantedWords.{
  WantedTold,
  wanted_tells,
  WantsWords,
  heard_silently,
  still_wants,
  told_wants,
  told_fits,
  wanted_row_is_words,
}
use Rattle.rows.specs.declared.Row.{Row}
use Rattle.rows.specs.declared.Taken.{Taken}
use Rattle.rows.specs.Row.{marks_on, word_there, words_taken, RowLeft, row_left, row_taken}
use Rattle.pieces.specs.LastLine.{counted}
use Rattle.pieces.specs.AsCoded.Runner.{TurnsTaken}
use Rattle.rows.specs.Turns.{Hearing}
use Rattle.rows.proofs.FoundLaws.{marks_few, found_next, is_data_word, found_are_data}
use Rattle.rows.proofs.TakenLaws.{found_few}
use Rattle.rows.proofs.TakenLaws as rows
use Rattle.rows.proofs.RowTurns.{nothing_taken, row_is_turns}
use Rattle.desk.specs.declared.run.Run.{Run as HeldRun}
use Rattle.desk.specs.declared.field.Field.TheVariants.{Shared}
use Rattle.desk.specs.Reading.{Taken as TakenField, read_at}
use Rattle.desk.specs.Deed.{shared_deed, deed_of}
use Rattle.desk.specs.Run.{Run, taking, took_by, met_by, desk_course}
use Rattle.desk.specs.AsCoded.Held.{run_of}

-- ---- a controller's run hears words

-- a run by its desk and counts
abbrev run_over : Seen → Desk → ℕ → ℕ → Run
run_over seen old fields offset =
    record { seen = seen; desk = old; fields = fields; offset = offset }

-- a word that is found is read: its tag is one of document 01's
word_is_read : (window : List ℕ) (line : Bool) (at value next : ℕ) (seen : Seen)
    → seen.setup ≡ true → word_found window at (marks_on line) ≡ Some (found_word value next)
    → read_at window at seen
    ≡ TakenField (Shared (WordField (marks_on line) value (time_at window (at + 6)))) next
unfolding read_at
word_is_read window line at value next seen after_setup is =
    let some : eqb (bytes_left window at) 0 ≡ false =
    ne_eqb (bytes_left window at) 0 (λ none.
    absurd (omega (
      arith,
      none,
      found_whole window at (marks_on line) (marks_few line) seen after_setup is,
    ))) in
    rw (
      some,
      found_tag window at (marks_on line) (marks_few line) seen after_setup is,
      found_is_read window at (marks_on line) (marks_few line) seen after_setup is,
    )

desk_hears : (seen : Seen) → seen.setup ≡ true
    → Hearing desk_course (run_over seen) words_step WantsWords
unfolding words_step desk_course met_by took_by taking deed_of shared_deed valued_at
desk_hears seen after_setup =
    record {
      none_heard = λ old. refl;
      one_heard = λ heard more old. refl;
      is_met = λ line more old fields offset window at value next wants is.
          let ten : next - at ≡ 10 = omega (arith, found_next window line at value next is) in
          let silent =
          heard_silently line more old (word_there window line at value) wants
          (is_data_word line value _) in
          rw (word_is_read window line at value next seen after_setup is, silent, ten);
      wants_on = λ line more old heard wants is. still_wants line more old heard wants is;
    }

-- ---- a row is as many turns

module _ (old : HeldRun) (window ram ram' : List ℕ) (at room most : ℕ) (wanted : Option Wanted)
    (words : Wanted) (taken : Taken) (is_wanted : wanted ≡ words_wanted old.controller)
    (is : wanted ≡ Some words)
    (is_taken_lem : row_left taken ram'
    ≡ row_taken window at words.line old.seen.setup room most
    (record { block = words.block; cell = words.cell; end = words.end }) ram) where
  abbrev row : Row
  row = record { block = words.block; cell = words.cell; end = words.end }

  abbrev found : List Word
  found = words_taken window at words.line row

  told : WantedTold old.controller words
  told = wanted_tells old.controller words (sym is ∙ is_wanted)

  -- where no word was found nothing has changed
  pub none_taken : taken.words ≡ 0
      → TurnsTaken desk_course window room most (run_of old ram) at most (run_of old ram') at
  none_taken none =
      let same : ram' ≡ ram =
      rows.none_taken window words.line old.seen.setup room most at row ram taken ram'
      is_taken_lem none in
      rw same nothing_taken

  module _ (some : taken.words ≢ 0) where
    tells : rows.SomeTaken window words.line old.seen.setup room most at row ram taken ram'
    tells =
        rows.some_taken window words.line old.seen.setup room most at row ram taken ram'
        is_taken_lem some

    as_many : taken.words ≡ length found
    as_many = ap (λ (any : RowLeft). any.taken.words) tells.is_row

    -- as many can be counted
    pub words_fit : words.taken + taken.words ≤ 65535
    words_fit =
        told_fits old.controller words told ram taken.words
        (omega (arith, as_many, found_few window words.line row at))

    -- the controller has stored the words that are found
    as_row : desk (with_taken (words.taken + taken.words) old.controller) ram'
        ≡ words_step found (desk old.controller ram)
    as_row =
        ap (λ (any : RowLeft). desk (with_taken (words.taken + any.taken.words) old.controller)
        any.ram) tells.is_row
        ∙ ap (λ (any : Block). desk (with_taken (words.taken + length found) old.controller)
        (with_cells ram any words.cell (values_of found))) told.same_block
        ∙ wanted_row_is_words old.controller words told ram found
        (found_are_data window words.line (words.end - words.cell) at)
        (found_few window words.line row at)

    pub row_taken_lem : (new : HeldRun)
        → new
        ≡ record {
          controller = with_taken (words.taken + taken.words) old.controller;
          seen = old.seen;
          fields = counted (old.fields + taken.words);
          offset = counted (old.offset + 10 * taken.words);
        }
        → TurnsTaken desk_course window room most (run_of old ram) at taken.left (run_of new ram')
        taken.at
    row_taken_lem new is_new =
        rw is_new
        (row_is_turns (desk_hears old.seen tells.able.after_setup) window words.line row
        old.seen.setup room most at ram ram' taken is_taken_lem some (desk old.controller ram) _
        old.fields old.offset (told_wants old.controller words told ram) as_row)
