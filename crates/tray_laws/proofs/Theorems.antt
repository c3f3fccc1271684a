-- The theorems over recordings, each by its statement. The words are those of `specs/`; the proofs
-- stand in the files that are cited. Assumes nothing.
use mathlib.Core.Path.{◌≡◌}
use mathlib.Core.Bool.{Bool}
use mathlib.Core.List.{List, ◌++◌}
use Prim.Native.Nat.{ℕ}
use lib.ListN.{length, replicate}
use Rattle.bus.specs.declared.word.Word.{Word}
use Rattle.card.specs.Memory.{card_words}
use Rattle.terminal.specs.Event.{Event}
use Rattle.recording.specs.declared.seen.Seen.{Seen}
use Rattle.tray.specs.Happening.{Happening}
use Rattle.tray.specs.Run.{Tray, tray_over, tray_at_start, Whole, whole_from, printed}
use Rattle.tray_laws.specs.Sound.{SoundTray}
use Rattle.tray_laws.specs.ByActions.{ByActions}
use Rattle.tray_laws.specs.Told.{Tells, CutTelling, ContinuesTelling}
use Rattle.tray_laws.specs.Answered.{Answered, SameAnswer}
use Rattle.tray_laws.specs.OneBlock.{BrokenRecording, SameRecordings, RunsTo, text_of}
use Rattle.tray.specs.AsCoded.Window.{window_run}
use Rattle.tray_laws.specs.AsCoded.Pieces.{Finished}
use Rattle.tray_laws.proofs.AnswerLaws as answer
use Rattle.tray_laws.proofs.SoundLaws as sound
use Rattle.tray_laws.proofs.SoundPieces as pieces
use Rattle.tray_laws.proofs.ByActions as actions
use Rattle.tray_laws.proofs.PieceLaws as streamed
use Rattle.tray_laws.proofs.ToldLaws as told
use Rattle.tray_laws.proofs.OneBlock.Theorem as demand

-- ---- demand 1: every list of bytes gets an answer and an end, and only one

answer_and_end : (start : Tray) (bytes : List ℕ) → Answered start bytes
answer_and_end = answer.answer_and_end

answered_once : {start : Tray} {bytes : List ℕ} (one other : Answered start bytes)
    → SameAnswer one other
answered_once = answer.answered_once

-- ---- demand 2: a run is what the library's actions make, and they make nothing else

run_by_actions : (ram bytes : List ℕ) → length ram ≡ card_words
    → ByActions (tray_over ram) bytes (whole_from (tray_over ram) bytes)
run_by_actions = actions.run_by_actions

actions_make_the_run : {old : Tray} {bytes : List ℕ} {made : Whole}
    → ByActions old bytes made → made ≡ whole_from old bytes
actions_make_the_run = actions.actions_make_the_run

-- it begins sound, and every call leaves it so
start_is_sound : (ram : List ℕ) → length ram ≡ card_words → SoundTray (tray_over ram)
start_is_sound = sound.start_is_sound

call_is_sound : (window : List ℕ) (last : Bool) (old : Tray) (out : List ℕ) → SoundTray old
    → SoundTray (window_run old window last out).run
call_is_sound = pieces.call_is_sound

-- any pieces print what the whole prints
pieces_print_the_whole : (input text : List ℕ) (new : Tray)
    → Finished tray_at_start input text new → text ≡ printed input
pieces_print_the_whole = streamed.pieces_print_the_whole

-- ---- demand 3: one broken message costs one block

one_block_recordings : (ram : List ℕ) (station table flags : ℕ) (one two : List ℕ)
    (earlier : List Event) (heard : Word) (told_one told_two later : List Event)
    → BrokenRecording ram station table flags one two earlier heard told_one told_two later
    → SameRecordings ram station table flags one two earlier heard told_one told_two later
one_block_recordings = demand.one_block_recordings

-- .. of which the program's case is a memory of zeros
printed_of_zeros : (station table flags : ℕ) (bytes : List ℕ) (sooner later : List Event)
    → RunsTo (replicate card_words 0) station table flags bytes sooner later
    → printed bytes ≡ text_of (replicate card_words 0) station table flags sooner later
printed_of_zeros = demand.printed_of_zeros

-- an accepted recording can be cut at every field, and bytes that begin alike tell alike
cut_telling : {seen : Seen} {bytes : List ℕ} (first second : List Happening)
    → Tells seen bytes (first ++ second) → CutTelling seen bytes first second
cut_telling = told.cut_telling

continues_telling : {seen : Seen} (front back : List ℕ) {first told : List Happening}
    (beginning : Tells seen front first) → Tells seen (front ++ back) told
    → ContinuesTelling back beginning told
continues_telling = told.continues_telling
