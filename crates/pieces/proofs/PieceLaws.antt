-- A recording prints and leaves the same however it is cut into pieces, and whatever buffers its
-- lines go into. Assumes nothing.
use mathlib.Core.Path.{◌≡◌, refl, sym, ap, ◌∙◌}
use mathlib.Core.Bool.{Bool, true, false}
use mathlib.Core.List.{List, [], ◌++◌, append_assoc, append-nil}
use Prim.Native.Nat.{ℕ}
use lib.ListN.{drop}
use Rattle.rules.proofs.Clash.{clash}
use Rattle.pieces.specs.Course.{Course}
use Rattle.pieces.specs.Whole.{Whole, whole, with_line, whole_from}
use Rattle.pieces.specs.Steady.{Steady}
use Rattle.pieces.specs.AsCoded.Window.{Passed, window_run}
use Rattle.pieces.specs.AsCoded.Pieces.{
  lines_put,
  Streamed,
  begins,
  reads,
  ends,
  calls,
  Finished,
}
use Rattle.pieces.proofs.WindowLaws.{call_goes_on, call_is_over}

module _ {Run : Type 0} (course : Course Run) {longest : ℕ} (steady : Steady course longest)
    (start : Run) where
  -- what was printed of the pieces so far, and what is made of what is left, is what is made of the
  -- whole, whatever comes behind; once the input has ended nothing does
  pub streamed_prints : (ended : Bool) (input text : List ℕ) (old : Run) (window : List ℕ)
      → Streamed course start ended input text old window
      → (behind : List ℕ) → (ended ≡ true → behind ≡ [])
      → whole_from course start (input ++ behind)
      ≡ with_line text (whole_from course old (window ++ behind))
  streamed_prints _ _ _ _ _ begins behind none = refl
  streamed_prints _ _ _ _ _
      (reads {input = input} {text = text} {old = old} {window = window} piece so_far) behind none =
      ap (whole_from course start) (append_assoc input piece behind)
      ∙ streamed_prints false input text old window so_far (piece ++ behind)
      (λ differ. absurd (clash (cc)))
      ∙ ap (λ (bytes : List ℕ). with_line text (whole_from course old bytes))
      (sym (append_assoc window piece behind))
  streamed_prints _ _ _ _ _
      (ends {input = input} {text = text} {old = old} {window = window} so_far) behind none =
      streamed_prints false input text old window so_far behind (λ differ. absurd (clash (cc)))
  streamed_prints _ _ _ _ _
      (calls {ended = ended} {input = input} {text = text} {old = old} {window = window} out
      so_far other) behind none =
      let call : Passed Run = window_run course old window ended out in
      let after : Whole Run = whole_from course call.run (drop call.at window ++ behind) in
      streamed_prints ended input text old window so_far behind none
      ∙ ap (with_line text) (call_goes_on course steady window behind ended none old out other)
      ∙ ap (λ (all : List ℕ). whole all after.run)
      (sym (append_assoc text (lines_put call) after.text))

  -- a run that is finished has printed and left what the definition makes of its input
  pub finished_prints : (input text : List ℕ) (new : Run)
      → Finished course start input text new → whole text new ≡ whole_from course start input
  finished_prints input text new done =
      let call : Passed Run =
      window_run course done.old done.window done.ended done.out in
      ap (λ (all : List ℕ). whole all new) done.is_text
      ∙ ap (whole (done.before ++ lines_put call)) done.is_new
      ∙ ap (with_line done.before)
      (sym (call_is_over course steady done.window [] done.ended (λ _. refl) done.old
      done.out done.is_over))
      ∙ sym (streamed_prints done.ended input done.before done.old done.window
      done.streamed [] (λ _. refl))
      ∙ ap (whole_from course start) (append-nil input)
