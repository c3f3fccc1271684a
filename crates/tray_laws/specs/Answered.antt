-- An answer and an end: what a run makes of any bytes whatever. The reader takes some fields, then
-- it is at the end of the bytes or refuses a field; the lines of the fields are printed, and one
-- last line. Definitions only; proved in `proofs/AnswerLaws`. Assumes nothing.
use Rattle.std.specs.Prelude.{◌≡◌, List, [], ◌∷◌, ◌++◌, ℕ, ◌+◌, length}
use Rattle.terminal.specs.State.{Card}
use Rattle.recording.specs.Reading.{Reading, End, Refused, read_at}
use Rattle.recording.specs.Value.{Valued}
use Rattle.recording.specs.Accepted.{TakesFields, seen_after_all}
use Rattle.lines.specs.Lines.{end_line, refusal_line}
use Rattle.tray.specs.Happening.{Happening, happenings, happened}
use Rattle.pieces.specs.LastLine.{counted}
use Rattle.pieces.specs.Whole.{whole}
use Rattle.tray.specs.Run.{Tray, shown_line, whole_from}

-- the lines of what fields tell, one after the other
unfoldable pub told_lines : List Happening → Card → List ℕ
told_lines [] old = []
told_lines (told ∷ rest) old =
    shown_line (happened told old) ++ told_lines rest (happened told old).card

-- the card that they leave
unfoldable pub told_card : List Happening → Card → Card
told_card [] old = old
told_card (told ∷ rest) old = told_card rest (happened told old).card

-- how far a run has come after fields that are so many bytes long
unfoldable pub tray_after : Tray → ℕ → List Valued → Tray
tray_after start size [] = start
tray_after start size (field ∷ rest) =
    record {
      seen = seen_after_all (field ∷ rest) start.seen;
      card = told_card (happenings (field ∷ rest)) start.card;
      fields = counted (start.fields + length (field ∷ rest));
      offset = counted (start.offset + size);
    }

-- the last line, by what the reader finds there: at the end END, with the number of fields taken;
-- at a field that it refuses the number of the refusal, with the offset of that field
pub data LastLine (after : Tray) : Reading → List ℕ → Type 0 where
  the_end : LastLine after End (end_line after.fields)
  a_refusal : {number place : ℕ}
      → LastLine after (Refused number place) (refusal_line number after.offset)

-- the claim of `answer_and_end`: the bytes are those of the fields that the reader takes, and those
-- that are left, where it takes none; the run prints the lines of the fields and the last line, and
-- leaves what the fields leave
pub record Answered (start : Tray) (bytes : List ℕ) : Type 0 where
  pub front : List ℕ
  pub left : List ℕ
  pub fields : List Valued
  pub line : List ℕ
  pub parts : bytes ≡ front ++ left
  pub takes : TakesFields start.seen bytes fields left
  pub last : LastLine (tray_after start (length front) fields)
      (read_at left 0 (seen_after_all fields start.seen)) line
  pub run : whole_from start bytes
      ≡ whole (told_lines (happenings fields) start.card ++ line)
      (tray_after start (length front) fields)

-- the claim of `answered_once`: two answers to the same bytes are the same
pub record SameAnswer {start : Tray} {bytes : List ℕ} (one other : Answered start bytes) : Type 0
  where
    pub fields : one.fields ≡ other.fields
    pub front : one.front ≡ other.front
    pub left : one.left ≡ other.left
    pub line : one.line ≡ other.line
