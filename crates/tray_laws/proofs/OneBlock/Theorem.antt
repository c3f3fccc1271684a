-- One broken message costs one block, over recordings: `one_block_recordings`. A recording is
-- accepted where its parts are (`whole_accepted`). Assumes nothing.
use mathlib.Core.Path.{◌≡◌, sym, ap, subst, ◌∙◌}
use mathlib.Core.Bool.{true}
use mathlib.Core.List.{List, [], ◌∷◌, ◌++◌, append_assoc}
use Prim.Native.Nat.{ℕ}
use lib.ListN.{replicate}
use Rattle.bus.specs.declared.word.Word.{Word}
use Rattle.card.specs.declared.place.Block.{Block}
use Rattle.card.specs.Memory.{card_words}
use Rattle.terminal.specs.State.{Card}
use Rattle.terminal.specs.Event.{Event, word}
use Rattle.terminal.specs.Machine.{run}
use Rattle.terminal_laws.specs.OneBlock.{Alike, SameAfter, BothOver}
use Rattle.terminal_laws.proofs.OneBlock.Theorem.{one_block}
use Rattle.recording.specs.Seen.{nothing_seen, setup_seen}
use Rattle.tray.specs.Happening.{Happening, setup, event}
use Rattle.tray.specs.Run.{tray_at_start, Whole, printed}
use Rattle.tray_laws.specs.Told.{Tells}
use Rattle.tray_laws.specs.OneBlock.{
  events,
  up_to,
  card_after,
  text_of,
  RunsTo,
  SpentBlock,
  BrokenRecording,
  SameRecordings,
}
use Rattle.tray_laws.proofs.ToldLaws.{tells_first, tells_behind}
use Rattle.tray_laws.proofs.OneBlock.Printing.{events_of_append, run_of_append, runs_to}
use Rattle.tray_laws.proofs.OneBlock.Lines.{later_lines}
use Rattle.tray_laws.proofs.OneBlock.Ending.{left_alike}

-- ---- a whole recording

module _ (station table flags : ℕ) (earlier : List Event) (heard : Word)
    (stretch later : List Event) where
  -- what its parts tell, put together
  told_whole : events earlier ++ (event (word heard) ∷ (events stretch ++ events later))
      ≡ events (up_to earlier heard stretch ++ later)
  unfolding events
  told_whole =
      ap (λ (rest : List Happening). events earlier ++ (event (word heard) ∷ rest))
      (sym (events_of_append stretch later))
      ∙ sym (events_of_append earlier (word heard ∷ (stretch ++ later)))
      ∙ ap events (sym (append_assoc earlier (word heard ∷ stretch) later))

  -- the reader accepts it
  pub whole_accepted : {before command bytes after : List ℕ}
      → Tells nothing_seen before (setup station table flags ∷ events earlier)
      → Tells setup_seen command (event (word heard) ∷ [])
      → Tells setup_seen bytes (events stretch) → Tells setup_seen after (events later)
      → Tells nothing_seen (before ++ (command ++ (bytes ++ after)))
      (setup station table flags ∷ events (up_to earlier heard stretch ++ later))
  whole_accepted {before} {command} {bytes} {after} first next between last =
      subst
      (λ (told : List Happening). Tells nothing_seen (before ++ (command ++ (bytes ++ after)))
      (setup station table flags ∷ told))
      told_whole
      (tells_first first (tells_behind next (tells_behind between last)))

-- ---- the theorem

module _ (ram : List ℕ) (station table flags : ℕ) (one two : List ℕ) (earlier : List Event)
    (heard : Word) (told_one told_two later : List Event) where
  pub one_block_recordings :
      BrokenRecording ram station table flags one two earlier heard told_one told_two later
      → SameRecordings ram station table flags one two earlier heard told_one told_two later
  unfolding card_after run
  one_block_recordings recordings =
      let start = card_after ram station table flags [] in
      let met = card_after ram station table flags earlier in
      let broken = recordings.broken in
      let at_one = run_of_append earlier (word heard ∷ told_one) start in
      let at_two = run_of_append earlier (word heard ∷ told_two) start in
      let here : Card = run (up_to earlier heard told_one) start in
      let there : Card = run (up_to earlier heard told_two) start in
      let Spent : Block → Type 0 = SpentBlock ram station table flags earlier heard in
      let held : SameAfter Spent later here there =
      rw (at_one, at_two, run_of_append earlier (word heard ∷ []) start)
      (one_block met heard told_one told_two later broken) in
      let both_over : BothOver here there later = rw (at_one, at_two) broken.both_over in
      let run_one =
      runs_to ram station table flags one (up_to earlier heard told_one) later
      recordings.one_accepted in
      let run_two =
      runs_to ram station table flags two (up_to earlier heard told_two) later
      recordings.two_accepted in
      let at_end : Alike Spent (run (up_to earlier heard told_one ++ later) start)
      (run (up_to earlier heard told_two ++ later) start) =
      rw (
        run_of_append (up_to earlier heard told_one) later start,
        run_of_append (up_to earlier heard told_two) later start,
      ) (left_alike Spent later here there both_over held) in
      record {
        run_one = run_one;
        run_two = run_two;
        lines = later_lines _ true later _ _ held.later;
        held = held;
        at_end = rw (run_one, run_two) at_end;
      }

-- ---- the program's case: RAM starts zero

pub printed_of_zeros : (station table flags : ℕ) (bytes : List ℕ) (sooner later : List Event)
    → RunsTo (replicate card_words 0) station table flags bytes sooner later
    → printed bytes ≡ text_of (replicate card_words 0) station table flags sooner later
unfolding printed tray_at_start
printed_of_zeros station table flags bytes sooner later runs =
    ap (λ (all : Whole). all.text) runs
