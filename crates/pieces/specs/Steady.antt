-- What is asked of a course, so that its recording may come in pieces. All that `proofs/` says of
-- calls, pieces and buffers follows from it, whatever the fields are. Definitions only. Assumes
-- nothing.
use Rattle.std.specs.Prelude.{
  ◌≡◌,
  true,
  false,
  List,
  [],
  ◌++◌,
  ℕ,
  ◌+◌,
  ◌-◌,
  ◌*◌,
  ◌≤◌,
  ◌<◌,
  length,
  drop,
}
use Rattle.lines.specs.Written.{line_room}
use Rattle.pieces.specs.Course.{taken, at_end, refused, Course, may_go_on, waits, further_on}

-- no field has more than `longest` bytes
pub record Steady {Run : Type 0} (course : Course Run) (longest : ℕ) : Type 0 where
  -- only the bytes from the place on are looked at
  pub from_the_place : (old : Run) (bytes : List ℕ) (at : ℕ)
      → course.meets old bytes at ≡ further_on at (course.meets old (drop at bytes) 0)
  -- a field that is taken stays taken, with the same line, whatever bytes come behind
  pub stays_taken : (old : Run) (bytes behind : List ℕ) {next : ℕ} {line : List ℕ} {new : Run}
      → course.meets old bytes 0 ≡ taken next line new
      → course.meets old (bytes ++ behind) 0 ≡ taken next line new
  -- so does a refusal, but for one that bytes behind may change
  pub stays_refused : (old : Run) (bytes behind : List ℕ) {number : ℕ}
      → course.meets old bytes 0 ≡ refused number → may_go_on number ≡ false
      → course.meets old (bytes ++ behind) 0 ≡ refused number
  -- no bytes are the end
  pub end_of_none : (old : Run) → course.meets old [] 0 ≡ at_end
  -- where bytes behind may change what is met, fewer are left than the longest field has
  pub few_left : (old : Run) (bytes : List ℕ) (at : ℕ) → waits (course.meets old bytes at) ≡ true
      → length bytes < at + longest
  -- the next field begins further on, inside the bytes or at their end
  pub moves_on : (old : Run) (bytes : List ℕ) (at : ℕ) {next : ℕ} {line : List ℕ} {new : Run}
      → course.meets old bytes at ≡ taken next line new → at < next
  pub ends_inside : (old : Run) (bytes : List ℕ) (at : ℕ) {next : ℕ} {line : List ℕ} {new : Run}
      → course.meets old bytes at ≡ taken next line new → next ≤ length bytes
  -- its line fits into the room that each is given
  pub line_fits : (old : Run) (bytes : List ℕ) (at : ℕ) {next : ℕ} {line : List ℕ} {new : Run}
      → course.meets old bytes at ≡ taken next line new → length line ≤ line_room

-- a line has so many bytes for each byte of its field at the most: asked only where one buffer is
-- to hold the lines of a whole recording
abbrev pub ShortLines : {Run : Type 0} → Course Run → ℕ → Type 0
ShortLines {Run} course each =
    (old : Run) (bytes : List ℕ) (at next : ℕ) (line : List ℕ) (new : Run)
    → course.meets old bytes at ≡ taken next line new → length line ≤ each * (next - at)

-- what a taken field leaves of a run keeps to a claim, if the run before it did
abbrev pub KeptBy : {Run : Type 0} → Course Run → (Run → Type 0) → Type 0
KeptBy {Run} course Claim =
    (old : Run) (bytes : List ℕ) (at next : ℕ) (line : List ℕ) (new : Run)
    → course.meets old bytes at ≡ taken next line new → Claim old → Claim new
