-- The laws of `specs/Run.antt`: a run goes field by field, by what the reader reads first. Assumes
-- nothing.
use mathlib.Core.Path.{◌≡◌, refl, ◌∙◌}
use mathlib.Core.List.{List}
use Prim.Native.Nat.{ℕ, ◌-◌, ◌<◌}
use native.Mathlib.Omega.{arith}
use lib.ListN.{length, drop}
use Rattle.recording.specs.Reading.{Reading, Taken, End, Refused, read_at}
use Rattle.pieces.specs.LastLine.{last_line}
use Rattle.pieces.specs.Whole as pieces
use Rattle.pieces.proofs.WholeLaws as general
use Rattle.tray.specs.Run.{Tray, taking, taking_line, met_by, tray_course, Whole, whole_from}
use Rattle.tray_laws.proofs.MetLaws.{met_as_read}
use Rattle.tray_laws.proofs.SteadyLaws.{tray_is_steady}

-- from a reading on: a field that is taken prints its line, and then comes what `rest` makes of the
-- bytes behind it; else the last line is printed
unfoldable pub whole_of : Reading → (Tray → List ℕ → Whole) → Tray → List ℕ → Whole
whole_of (Taken field next) rest old bytes =
    pieces.with_line (taking_line bytes field old)
    (rest (taking bytes field next old) (drop next bytes))
whole_of End rest old bytes = pieces.whole (last_line 0 old.fields old.offset) old
whole_of (Refused number place) rest old bytes =
    pieces.whole (last_line number old.fields old.offset) old

-- so it is by what the reading is to the run
pub whole_of_met : (reading : Reading) (rest : Tray → List ℕ → Whole) (old : Tray) (bytes : List ℕ)
    → pieces.whole_of tray_course (met_by reading bytes 0 old) rest old bytes
    ≡ whole_of reading rest old bytes
unfolding whole_of pieces.whole_of met_by tray_course
whole_of_met (Taken field next) rest old bytes =
    let size : next - 0 ≡ next = omega arith in
    rw size
whole_of_met End rest old bytes = refl
whole_of_met (Refused number place) rest old bytes = refl

-- what is made of the bytes, by the first reading
pub whole_by_reading : (old : Tray) (bytes : List ℕ) (reading : Reading)
    → read_at bytes 0 old.seen ≡ reading
    → whole_from old bytes ≡ whole_of reading whole_from old bytes
whole_by_reading old bytes reading is =
    general.whole_by_met tray_course tray_is_steady old bytes (met_by reading bytes 0 old)
    (met_as_read old bytes 0 is)
    ∙ whole_of_met reading whole_from old bytes

-- the text is never empty
pub text_not_empty : (old : Tray) (bytes : List ℕ) → 0 < length (whole_from old bytes).text
text_not_empty = general.text_not_empty tray_course tray_is_steady
