-- The course of a run: what it makes of what stands at a place of its bytes. This is what a program
-- brings that runs a recording. A field that is read well may still be refused by the run as it
-- stands, so the refusals are the course's, and not the reader's alone. Definitions only.
-- Assumes nothing.
use Rattle.std.specs.Prelude.{Bool, true, false, ◌||◌, List, ℕ, ◌+◌, eqb}
use Rattle.pieces.specs.LastLine.{last_line}

-- what is met at a place: a field that is taken, with the place where the next one begins, the line
-- that is printed and how far the run has come then; the end of the bytes; or a refusal
pub data Met (Run : Type 0) : Type 0 where
  taken : (next : ℕ) (line : List ℕ) (new : Run) → Met Run
  at_end : Met Run
  refused : (number : ℕ) → Met Run

-- over what a run holds: how many fields were taken, where in the recording the next one begins,
-- and what the run meets at a place of some bytes
pub record Course (Run : Type 0) : Type 0 where
  pub fields : Run → ℕ
  pub offset : Run → ℕ
  pub meets : Run → List ℕ → ℕ → Met Run

-- the last line of a run, by the number of a refusal or 0 for the end of the bytes
abbrev pub last_of : {Run : Type 0} → Course Run → ℕ → Run → List ℕ
last_of course number old = last_line number (course.fields old) (course.offset old)

-- ---- bytes behind, and bytes before

-- the end of the bytes, number 0, and a field that they end inside, 5, may be no end of the input
abbrev pub may_go_on : ℕ → Bool
may_go_on number = eqb number 0 || eqb number 5

-- whether bytes behind may change what is met
abbrev pub waits : {Run : Type 0} → Met Run → Bool
waits (taken next line new) = false
waits at_end = true
waits (refused number) = may_go_on number

-- the same with so many bytes before it
abbrev pub further_on : {Run : Type 0} → ℕ → Met Run → Met Run
further_on start (taken next line new) = taken (start + next) line new
further_on start at_end = at_end
further_on start (refused number) = refused number
