-- The ten marked cases of document 01: one proof over the table of `specs/Marked.antt`. Assumes
-- nothing.
use mathlib.Core.Path.{◌≡◌, refl}
use mathlib.Core.List.{map}
use Prim.Native.Nat.{ℕ}
use lib.ListN.{get_or}
use Rattle.terminal.specs.State.{Card}
use Rattle.recording.specs.Tag.{tag_of, length_fits}
use Rattle.recording.specs.Field.{field_at}
use Rattle.recording.specs.Reading.{read_at}
use Rattle.recording.specs.Value.{valued_at}
use Rattle.lines.specs.Digits.{hex_digit, hex_word, decimal_by, decimal}
use Rattle.lines.specs.Lines.{each_word, status_line, queue_line, end_line, refusal_line}
use Rattle.pieces.specs.LastLine.{last_line}
use Rattle.pieces.specs.Whole.{whole_of, whole_by, whole_from as every_whole}
use Rattle.tray.specs.Happening.{happening_of, happened}
use Rattle.tray.specs.Run.{
  tray_at_start,
  taking,
  taking_line,
  met_by,
  tray_course,
  Whole,
  whole_from,
}
use Rattle.runs.specs.Marked.{Holds, holds, Case, case, marked}
use Rattle.runs.proofs.Telling.{runs}

-- what is found where the table says what is wanted
abbrev found : Case → Case
found wanted =
    let all : Whole = whole_from tray_at_start wanted.recording in
    let card : Card = all.run.card in
    case wanted.recording all.text card.core.status
    (map (λ (at : Holds). holds at.address (get_or card.ram at.address 0)) wanted.cells)

-- to unfold `all` is to unfold a tray run, from bytes to text
unfoldable all : ℕ
unfolding runs read_at tag_of length_fits field_at valued_at happening_of happened tray_at_start
    last_line taking taking_line met_by tray_course whole_of whole_by every_whole hex_digit
    hex_word decimal_by decimal each_word status_line queue_line end_line refusal_line marked
all = 0

all_as_marked : map found marked ≡ marked
unfolding all
all_as_marked = refl
