-- A recording prints and leaves the same however it is cut into pieces, and whatever buffers its
-- lines go into: what `pieces` says of every steady course. Assumes nothing.
use mathlib.Core.Path.{◌≡◌, ap}
use mathlib.Core.Bool.{Bool, true}
use mathlib.Core.List.{List, [], ◌++◌}
use Prim.Native.Nat.{ℕ}
use Rattle.pieces.specs.Whole.{whole, with_line}
use Rattle.pieces.proofs.PieceLaws as general
use Rattle.tray.specs.Run.{Tray, tray_at_start, tray_course, Whole, whole_from, printed}
use Rattle.tray_laws.specs.AsCoded.Pieces.{Streamed, Finished}
use Rattle.tray_laws.proofs.SteadyLaws.{tray_is_steady}

-- what was printed of the pieces so far, and what is made of what is left, is what is made of the
-- whole, whatever comes behind; once the input has ended nothing does
pub streamed_prints : (start : Tray) (ended : Bool) (input text : List ℕ) (old : Tray)
    (window : List ℕ) → Streamed start ended input text old window
    → (behind : List ℕ) → (ended ≡ true → behind ≡ [])
    → whole_from start (input ++ behind) ≡ with_line text (whole_from old (window ++ behind))
streamed_prints = general.streamed_prints tray_course tray_is_steady

-- a run that is finished has printed and left what the definition makes of its input
pub finished_prints : (start : Tray) (input text : List ℕ) (new : Tray)
    → Finished start input text new → whole text new ≡ whole_from start input
finished_prints = general.finished_prints tray_course tray_is_steady

-- the program's run, from zero RAM on
pub pieces_print_the_whole : (input text : List ℕ) (new : Tray)
    → Finished tray_at_start input text new → text ≡ printed input
unfolding printed
pieces_print_the_whole input text new done =
    ap (λ (all : Whole). all.text) (finished_prints tray_at_start input text new done)
