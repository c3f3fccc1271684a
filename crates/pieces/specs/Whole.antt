-- What a run makes of a whole recording: the fields one by one, their lines, and the last line.
-- Definitions only. Assumes nothing.
use Rattle.std.specs.Prelude.{List, [], ◌++◌, ℕ, zero, suc, length, drop}
use Rattle.pieces.specs.Course.{Met, taken, at_end, refused, Course, last_of}

-- the text that it prints, and how far it has come then
pub record Whole (Run : Type 0) : Type 0 where
  pub text : List ℕ
  pub run : Run

abbrev pub whole : {Run : Type 0} → List ℕ → Run → Whole Run
whole text run = record { text = text; run = run }

-- a line printed before the rest
abbrev pub with_line : {Run : Type 0} → List ℕ → Whole Run → Whole Run
with_line line rest = whole (line ++ rest.text) rest.run

-- by what is met first: a field that is taken prints its line, and then comes what `rest` makes of
-- the bytes behind it; else the last line is printed
unfoldable pub whole_of : {Run : Type 0} → Course Run → Met Run → (Run → List ℕ → Whole Run) → Run
    → List ℕ → Whole Run
whole_of course (taken next line new) rest old bytes = with_line line (rest new (drop next bytes))
whole_of course at_end rest old bytes = whole (last_of course 0 old) old
whole_of course (refused number) rest old bytes = whole (last_of course number old) old

-- in so many fields at the most
unfoldable pub whole_by : {Run : Type 0} → Course Run → ℕ → Run → List ℕ → Whole Run
whole_by course zero old bytes = whole [] old
whole_by course (suc fields) old bytes =
    whole_of course (course.meets old bytes 0) (whole_by course fields) old bytes

-- of the bytes that are left; they hold fewer fields than bytes
unfoldable pub whole_from : {Run : Type 0} → Course Run → Run → List ℕ → Whole Run
whole_from course old bytes = whole_by course (suc (length bytes)) old bytes
