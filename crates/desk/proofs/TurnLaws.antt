-- One field of a window, as the code takes it. Assumes nothing.
use Rattle.std.proofs.Common.{
  ◌≡◌,
  ◌≢◌,
  ℕ,
  ◌+◌,
  ◌-◌,
  eqb,
  List,
  Option,
  Some,
  None,
  Result,
  Ok,
  Err,
  sym,
  refl,
  ap,
  ◌∙◌,
  ne_eqb,
}
use Rattle.rules.proofs.Choices.{by_test}
use Rattle.refusals.specs.declared.Refusal.{Refusal}
use Rattle.refusals.specs.Number.{number_of, refused}
use Rattle.refusals.proofs.NumberLaws.{some_refused}
use Rattle.recording.specs.Value.{Valued, valued_at}
use Rattle.recording.specs.Value as shared
use Rattle.formats.specs.declared.code.Coded.{Coded}
use Rattle.formats.specs.Code.{coded_by}
use Rattle.lines.specs.Page.{on, Leaves, line_on}
use Rattle.lines.specs.declared.Page.{Page}
use Rattle.pieces.specs.LastLine.{counted}
use Rattle.pieces.specs.Course.{may_go_on}
use Rattle.pieces.specs.AsCoded.OnPage.{OnPage}
use Rattle.pieces.specs.AsCoded.Runner.{FieldLeft, field_left, field_run}
use Rattle.controller.specs.declared.state.Controller.{Controller}
use Rattle.controller.specs.Control.{code_in}
use Rattle.controller.specs.State.{Desk, desk}
use Rattle.controller.specs.Start.{Started, may_start, starting_by, start_step}
use Rattle.desk.specs.declared.field.Field.{Field}
use Rattle.desk.specs.declared.field.Field.TheVariants.{Setup, Start, Shared}
use Rattle.desk.specs.declared.run.Run.{Run as HeldRun}
use Rattle.desk.specs.declared.deed.Answer.{Answer}
use Rattle.desk.specs.declared.reading.Taken.{Taken}
use Rattle.desk.specs.Reading.{read_at, reading, seen_after}
use Rattle.desk.specs.Deed.{Done, done, shared_deed, deed_of, answer_line}
use Rattle.desk.specs.Run.{Run, taking, took_by, met_by, desk_course}
use Rattle.desk.specs.AsCoded.Held.{run_of, answer_in}

-- ---- what is refused changes nothing

code_refused : (coded : Option Coded) (old : Desk) → ((starting_by coded old).refusal ≡ 0 → ⊥)
    → (starting_by coded old).desk ≡ old
code_refused (Some coded) old other = absurd (other refl)
code_refused None old other = refl

start_refused : (old : Desk) → ((start_step old).refusal ≡ 0 → ⊥) → (start_step old).desk ≡ old
unfolding start_step
start_refused old =
    by_test (λ (started : Started). (started.refusal ≡ 0 → ⊥) → started.desk ≡ old)
    (may_start old.state)
    (λ may. code_refused (coded_by (code_in old.state.control)) old)
    (λ may_not other. refl)

shared_not_refused : (told : Valued) (old : Desk) → (shared_deed told old).refusal ≡ 0
unfolding shared_deed
shared_not_refused (shared.setup station table flags) old = refl
shared_not_refused (shared.word marks value time) old = refl
shared_not_refused (shared.silence line time) old = refl
shared_not_refused shared.read_queue old = refl
shared_not_refused (shared.host_write address words) old = refl
shared_not_refused (shared.move_table table) old = refl
shared_not_refused (shared.set_flags flags) old = refl

pub refused_changes_nothing : (bytes : List ℕ) (field : Field) (old : Desk)
    → ((deed_of bytes field old).refusal ≡ 0 → ⊥) → (deed_of bytes field old).desk ≡ old
unfolding deed_of
refused_changes_nothing bytes (Setup control count) old other = absurd (other refl)
refused_changes_nothing bytes Start old other = start_refused old other
refused_changes_nothing bytes (Shared field) old other =
    absurd (other (shared_not_refused (valued_at bytes field) old))

-- ---- a refusal is 14: none waits for bytes

code_by_14 : (coded : Option Coded) (old : Desk)
    → may_go_on (starting_by coded old).refusal ≡ eqb (starting_by coded old).refusal 0
code_by_14 (Some coded) old = refl
code_by_14 None old = refl

start_by_14 : (old : Desk) → may_go_on (start_step old).refusal ≡ eqb (start_step old).refusal 0
unfolding start_step
start_by_14 old =
    by_test (λ (started : Started). may_go_on started.refusal ≡ eqb started.refusal 0)
    (may_start old.state)
    (λ may. code_by_14 (coded_by (code_in old.state.control)) old)
    (λ may_not. refl)

pub refused_by_14 : (bytes : List ℕ) (field : Field) (old : Desk)
    → may_go_on (deed_of bytes field old).refusal ≡ eqb (deed_of bytes field old).refusal 0
unfolding deed_of
refused_by_14 bytes (Setup control count) old = refl
refused_by_14 bytes Start old = start_by_14 old
refused_by_14 bytes (Shared field) old =
    rw (shared_not_refused (valued_at bytes field) old)

-- ---- what stands at a place, as the code takes it

module _ (old : HeldRun) (ram window : List ℕ) (at : ℕ) (page : Page)
    (answer : Result (Option Taken) Refusal)
    (is_reading : reading answer ≡ read_at window at old.seen) where
  abbrev met : FieldLeft Run
  met = field_run (desk_course.meets (run_of old ram) window at) (run_of old ram) (on page)

  module _ (told : Taken) (is : answer ≡ Ok (Some told)) (outcome : Result Answer Refusal)
      (left : Controller) (ram' : List ℕ)
      (is_left : done (refused outcome) (answer_in outcome) (desk left ram')
      ≡ deed_of window told.field (desk old.controller ram)) where
    -- a field is taken
    pub field_taken : (deed : Answer) (page' : Page) (new : HeldRun)
        → outcome ≡ Ok deed
        → Leaves page page' (line_on page (answer_line ram' deed))
        → new
        ≡ record {
          controller = left;
          seen = seen_after told.field old.seen;
          fields = counted (old.fields + 1);
          offset = counted (old.offset + (told.next - at));
        }
        → OnPage page page' (field_left (Ok (Some told.next)) (run_of new ram') (on page')) met
    unfolding field_run desk_course met_by took_by taking
    field_taken deed page' new done_so printed is_new =
        record {
          same_buffer = printed.same_buffer;
          is_wanted = rw (← is_reading, is, ← is_left, done_so, ← printed.is_wanted, is_new);
        }

    -- what it does is refused
    pub deed_refused : (refusal : Refusal) → outcome ≡ Err refusal
        → OnPage page page (field_left (Err refusal) (run_of (record {
          controller = left;
          seen = old.seen;
          fields = old.fields;
          offset = old.offset;
        }) ram') (on page)) met
    unfolding field_run desk_course met_by took_by
    deed_refused refusal refused_so =
        let number : number_of refusal
        ≡ (deed_of window told.field (desk old.controller ram)).refusal =
        sym (ap (λ (any : Result Answer Refusal). refused any) refused_so)
        ∙ ap (λ (any : Done). any.refusal) is_left in
        let other : number_of refusal ≢ 0 = some_refused (Some refusal) refl in
        let kept : (deed_of window told.field (desk old.controller ram)).desk
        ≡ desk old.controller ram =
        refused_changes_nothing window told.field (desk old.controller ram)
        (λ none. other (number ∙ none)) in
        let same : desk left ram' ≡ desk old.controller ram =
        ap (λ (any : Done). any.desk) is_left ∙ kept in
        record {
          same_buffer = refl;
          is_wanted =
              rw (
                ← is_reading,
                is,
                ← number,
                ne_eqb (number_of refusal) 0 other,
              )
              (ap (λ (any : Desk). field_left (Err refusal) (record {
                seen = old.seen;
                desk = any;
                fields = old.fields;
                offset = old.offset;
              }) (on page)) same);
        }

  -- nothing is left
  pub end_met : answer ≡ Ok None
      → OnPage page page (field_left (Ok None) (run_of old ram) (on page)) met
  unfolding field_run desk_course met_by
  end_met is = record { same_buffer = refl; is_wanted = rw (← is_reading, is) refl }

  -- what stands there is refused
  pub refusal_met : (refusal : Refusal) → answer ≡ Err refusal
      → OnPage page page (field_left (Err refusal) (run_of old ram) (on page)) met
  unfolding field_run desk_course met_by
  refusal_met refusal is = record { same_buffer = refl; is_wanted = rw (← is_reading, is) refl }
