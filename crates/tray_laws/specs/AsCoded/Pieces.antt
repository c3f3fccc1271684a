-- A recording that comes in pieces, as a program reads it: what `pieces` says of it, over the
-- course of a tray run. Definitions only. Assumes nothing.
use Rattle.std.specs.Prelude.{Bool, List, ℕ}
use Rattle.pieces.specs.AsCoded.Pieces as pieces
use Rattle.tray.specs.Run.{Tray, tray_course}

-- `Streamed start ended input text old window`: from `start` on a program has read this input,
-- which has ended or not, and has printed this text; it has come as far as `old`, and these bytes
-- are left in its window
abbrev pub Streamed : Tray → Bool → List ℕ → List ℕ → Tray → List ℕ → Type 0
Streamed start ended input text old window =
    pieces.Streamed tray_course start ended input text old window

-- and then a call ends the run
abbrev pub Finished : Tray → List ℕ → List ℕ → Tray → Type 0
Finished start input text new = pieces.Finished tray_course start input text new
