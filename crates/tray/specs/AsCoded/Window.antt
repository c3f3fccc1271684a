-- A tray run through a window of the recording: the call of `pieces`, over the course of a tray
-- run. Definitions only. Assumes nothing.
use Rattle.std.specs.Prelude.{ℕ, Bool, List}
use Rattle.pieces.specs.AsCoded.Window as pieces
use Rattle.tray.specs.Run.{Tray, tray_course}

-- the run, the place in the window, the place in the buffer, the buffer, and why it stopped
abbrev pub Passed : Type 0
Passed = pieces.Passed Tray

-- field after field, in so many turns at the most
abbrev pub turns : ℕ → List ℕ → Bool → Passed → Passed
turns most window last old = pieces.turns tray_course most window last old

-- a call: from the window's first byte on, into an empty buffer
abbrev pub window_run : Tray → List ℕ → Bool → List ℕ → Passed
window_run old window last out = pieces.window_run tray_course old window last out

-- the room in which the lines of so many bytes stand at the most: no line is longer than that of a
-- silence, whose field has 8 bytes
abbrev pub whole_room : ℕ → ℕ
whole_room bytes = pieces.room_of 21 bytes
