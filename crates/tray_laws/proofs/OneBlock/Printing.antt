-- What a run makes of an accepted recording: the lines of its events one after the other, END with
-- the number of its fields, and the card that its events leave. Assumes nothing.
use mathlib.Core.Path.{◌≡◌, refl, sym, ap, ◌∙◌}
use mathlib.Core.List.{List, [], ◌∷◌, ◌++◌, append_assoc}
use Prim.Native.Nat.{ℕ, suc, ◌+◌}
use native.Mathlib.Omega.{arith}
use lib.ListN.{length}
use Rattle.terminal.specs.State.{Card}
use Rattle.terminal.specs.Event.{Event}
use Rattle.terminal.specs.Machine.{step, run}
use Rattle.recording.specs.Seen.{nothing_seen}
use Rattle.lines.specs.Lines.{end_line}
use Rattle.tray.specs.Happening.{Happening, setup, event, happened}
use Rattle.pieces.specs.LastLine.{counted}
use Rattle.tray.specs.Run.{tray_over, shown_line}
use Rattle.tray_laws.specs.Told.{Tells}
use Rattle.tray_laws.specs.Answered.{told_lines, told_card}
use Rattle.tray_laws.specs.OneBlock.{events, line_of, lines_of, card_after, RunsTo}
use Rattle.tray_laws.proofs.ToldRun.{telling_run}

-- ---- fields that tell events

length_of_events : (told : List Event) → length (events told) ≡ length told
unfolding events
length_of_events [] = refl
length_of_events (told ∷ more) = ap suc (length_of_events more)

lines_of_events : (told : List Event) (old : Card)
    → told_lines (events told) old ≡ lines_of told old
unfolding told_lines events lines_of happened
lines_of_events [] old = refl
lines_of_events (told ∷ more) old =
    ap (λ (text : List ℕ). shown_line (happened (event told) old) ++ text)
    (lines_of_events more (step told old).card)

card_of_events : (told : List Event) (old : Card) → told_card (events told) old ≡ run told old
unfolding told_card events run happened
card_of_events [] old = refl
card_of_events (told ∷ more) old = card_of_events more (step told old).card

pub events_of_append : (sooner later : List Event)
    → events (sooner ++ later) ≡ events sooner ++ events later
unfolding events
events_of_append [] later = refl
events_of_append (told ∷ sooner) later =
    ap (λ (rest : List Happening). event told ∷ rest) (events_of_append sooner later)

-- ---- events one behind the other

pub run_of_append : (sooner later : List Event) (old : Card)
    → run (sooner ++ later) old ≡ run later (run sooner old)
unfolding run
run_of_append [] later old = refl
run_of_append (told ∷ sooner) later old = run_of_append sooner later (step told old).card

lines_of_append : (sooner later : List Event) (old : Card)
    → lines_of (sooner ++ later) old ≡ lines_of sooner old ++ lines_of later (run sooner old)
unfolding lines_of run
lines_of_append [] later old = refl
lines_of_append (told ∷ sooner) later old =
    ap (λ (text : List ℕ). line_of told old ++ text)
    (lines_of_append sooner later (step told old).card)
    ∙ sym (append_assoc (line_of told old) (lines_of sooner (step told old).card)
    (lines_of later (run sooner (step told old).card)))

-- ---- a recording

module _ (ram : List ℕ) (station table flags : ℕ) where
  pub runs_to : (bytes : List ℕ) (sooner later : List Event)
      → Tells nothing_seen bytes (setup station table flags ∷ events (sooner ++ later))
      → RunsTo ram station table flags bytes sooner later
  unfolding tray_over told_lines told_card happened card_after run
  runs_to bytes sooner later tells =
      let start = card_after ram station table flags [] in
      let all = sooner ++ later in
      let lines : told_lines (events all) start
      ≡ lines_of sooner start ++ lines_of later (run sooner start) =
      lines_of_events all start ∙ lines_of_append sooner later start in
      let count : counted (0 + suc (length (events all))) ≡ counted (1 + length all) =
      ap counted (omega (arith, length_of_events all)) in
      let offset : counted (0 + length bytes) ≡ counted (length bytes) = omega arith in
      telling_run (tray_over ram) tells
      ∙ rw (
        lines,
        card_of_events all start,
        count,
        offset,
        append_assoc (lines_of sooner start) (lines_of later (run sooner start))
            (end_line (counted (1 + length all))),
      ) refl
