-- One field of a window, as the code takes it. Assumes nothing.
use Rattle.std.proofs.Common.{
  ◌≡◌,
  ℕ,
  ◌+◌,
  ◌-◌,
  List,
  Option,
  Some,
  None,
  Result,
  Ok,
  Err,
  refl,
  sym,
  ap,
  ◌∙◌,
  arith,
}
use Rattle.terminal.specs.declared.state.Core.{Core}
use Rattle.terminal.specs.declared.state.Answer.{Answer}
use Rattle.queue.specs.declared.Queue.{Queue}
use Rattle.terminal.specs.State.{card}
use Rattle.terminal.specs.Event.{shown}
use Rattle.recording.specs.declared.field.Field.{Field}
use Rattle.recording.specs.declared.seen.Seen.{Seen}
use Rattle.recording.specs.declared.field.Field.TheVariants.{HostWrite}
use Rattle.recording.specs.declared.reading.Taken.{Taken as FieldTaken}
use Rattle.recording.specs.declared.reading.Refused.{Refused as FieldRefused}
use Rattle.recording.specs.Seen.{seen_after}
use Rattle.recording.specs.Reading.{Taken, read_at, reading}
use Rattle.recording.specs.Value.{valued_at}
use Rattle.recording.proofs.TakenLaws.{taken_within}
use Rattle.recording.proofs.InOrder.{taken_in_order}
use Rattle.recording.proofs.TakenWords.{taken_words_there}
use Rattle.lines.specs.Page.{on, Leaves, line_on}
use Rattle.lines.specs.declared.Page.{Page}
use Rattle.pieces.specs.LastLine.{counted}
use Rattle.pieces.specs.AsCoded.OnPage.{OnPage}
use Rattle.pieces.specs.AsCoded.Runner.{FieldLeft, field_left, field_run}
use Rattle.tray.specs.declared.run.Tray.{Tray as HeldTray}
use Rattle.tray.specs.Happening.{happening_of, happened}
use Rattle.tray.specs.Run.{Tray, answer_line, taking, taking_line, met_by, tray_course}
use Rattle.tray.specs.AsCoded.Held.{tray_of, WasRead}

-- what the reader answers
abbrev Answered : Type 0
Answered = Result (Option FieldTaken) FieldRefused

-- a field that was read has its words in the window, and ends further on
pub reads_on : (window : List ℕ) (at : ℕ) (seen : Seen) (answer : Answered)
    (found : Option FieldTaken) (told : FieldTaken)
    → reading answer ≡ read_at window at seen → answer ≡ Ok found → found ≡ Some told
    → WasRead window told.field at told.next
reads_on window at seen answer found told is_reading is some =
    let next : ℕ = told.next in
    let taken : read_at window at seen ≡ Taken told.field next =
    rw (is, some) at (sym is_reading) in
    record {
      words =
          record {
            words =
                λ address first count is_write_lem.
                let write : read_at window at seen ≡ Taken (HostWrite address first count) next =
                taken ∙ ap (λ (any : Field). Taken any next) is_write_lem in
                record {
                  few = (taken_in_order window at seen write).at_most;
                  there = taken_words_there window at seen write;
                };
          };
      further = omega (arith, (taken_within window at seen taken).moves_on);
    }

-- ---- what the code makes of a reading

module _ (old : HeldTray) (ram window : List ℕ) (at : ℕ) (page : Page) (answer : Answered)
    (is_reading : reading answer ≡ read_at window at old.seen) where
  abbrev met : FieldLeft Tray
  met = field_run (tray_course.meets (tray_of old ram) window at) (tray_of old ram) (on page)

  pub field_taken : (found : Option FieldTaken) (told : FieldTaken) → answer ≡ Ok found
      → found ≡ Some told
      → (core : Core) (queue : Queue) (brought : Answer) (ram' : List ℕ) (page' : Page)
      → shown (card core queue ram') brought
      ≡ happened (happening_of (valued_at window told.field)) (card old.core old.queue ram)
      → Leaves page page' (line_on page (answer_line ram' brought))
      → (new : HeldTray)
      → new
      ≡ record {
        core = core;
        queue = queue;
        seen = seen_after told.field old.seen;
        fields = counted (old.fields + 1);
        offset = counted (old.offset + (told.next - at));
      }
      → OnPage page page' (field_left (Ok (Some told.next)) (tray_of new ram') (on page')) met
  unfolding field_run tray_course met_by taking taking_line
  field_taken found told is some core queue brought ram' page' is_left printed new is_new =
      record {
        same_buffer = printed.same_buffer;
        is_wanted = rw (← is_reading, is, some, ← is_left, ← printed.is_wanted, is_new);
      }

  pub end_met : (found : Option FieldTaken) → answer ≡ Ok found → found ≡ None
      → OnPage page page (field_left (Ok None) (tray_of old ram) (on page)) met
  unfolding field_run tray_course met_by
  end_met found is none =
      record { same_buffer = refl; is_wanted = rw (← is_reading, is, none) refl }

  pub refusal_met : (refused : FieldRefused) → answer ≡ Err refused
      → OnPage page page (field_left (Err refused.refusal) (tray_of old ram) (on page)) met
  unfolding field_run tray_course met_by
  refusal_met refused is =
      record { same_buffer = refl; is_wanted = rw (← is_reading, is) refl }

pub ruleset meeting = (end_met, refusal_met)
