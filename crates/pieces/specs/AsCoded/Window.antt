-- A run through a window of the recording, and lines into a lent buffer. A call takes every whole
-- field of the window, until it needs more bytes, has no room for a line, or is over.
-- Definitions only. Assumes nothing.
use Rattle.std.specs.Prelude.{
  Bool,
  true,
  false,
  cond,
  not,
  ◌&&◌,
  List,
  ℕ,
  zero,
  suc,
  ◌+◌,
  ◌-◌,
  ◌*◌,
  ltb,
  length,
}
use Rattle.lines.specs.Written.{Put, put, line_room, line_written}
use Rattle.pieces.specs.declared.stop.Stop.{Stop}
use Rattle.pieces.specs.declared.stop.Stop.TheVariants.{Going, Hungry, Full, Over}
use Rattle.pieces.specs.LastLine.{last_line}
use Rattle.pieces.specs.Course.{Met, taken, at_end, refused, Course, may_go_on}

-- the run, the place in the window, the place in the buffer, the buffer, and why it stopped
pub record Passed (Run : Type 0) : Type 0 where
  pub run : Run
  pub at : ℕ
  pub put : ℕ
  pub out : List ℕ
  pub stop : Stop

abbrev pub passed : {Run : Type 0} → Run → ℕ → Put → Stop → Passed Run
passed new at left stop =
    record { run = new; at = at; put = left.next; out = left.bytes; stop = stop }

abbrev pub stopping : {Run : Type 0} → Stop → Passed Run → Passed Run
stopping stop old =
    record { run = old.run; at = old.at; put = old.put; out = old.out; stop = stop }

-- ---- where no field is taken

-- what is left of the buffer, and why the call stops
pub record Stopped : Type 0 where
  pub left : Put
  pub stop : Stop

abbrev pub stopped : Put → Stop → Stopped
stopped left stop = record { left = left; stop = stop }

-- more bytes are needed or, where these are the last, the last line is printed
unfoldable pub stopped_at : ℕ → Bool → ℕ → ℕ → List ℕ → ℕ → Stopped
stopped_at number last fields offset out at =
    cond (not last && may_go_on number) (stopped (put at out) Hungry)
    (stopped (line_written out at (last_line number fields offset)) Over)

-- by the number of a refusal or 0 for the end of the bytes
abbrev pub stops_at : {Run : Type 0} → Course Run → ℕ → Bool → Passed Run → Passed Run
stops_at course number last old =
    let run = old.run in
    let end =
    stopped_at number last (course.fields run) (course.offset run) old.out old.put in
    passed run old.at end.left end.stop

-- ---- field after field

-- a field is taken, and its line is printed
abbrev pub takes : {Run : Type 0} → ℕ → List ℕ → Run → Passed Run → Passed Run
takes next line new old = passed new next (line_written old.out old.put line) Going

unfoldable pub passing : {Run : Type 0} → Course Run → Met Run → Bool → Passed Run → Passed Run
passing course (taken next line new) last old = takes next line new old
passing course at_end last old = stops_at course 0 last old
passing course (refused number) last old = stops_at course number last old

-- one field, if there is room for its line
unfoldable pub turn : {Run : Type 0} → Course Run → List ℕ → Bool → Passed Run → Passed Run
turn course window last old =
    cond (ltb (length old.out - old.put) line_room) (stopping Full old)
    (passing course (course.meets old.run window old.at) last old)

abbrev pub is_going : Stop → Bool
is_going Going = true
is_going Hungry = false
is_going Full = false
is_going Over = false

-- in so many turns at the most
unfoldable pub turns : {Run : Type 0} → Course Run → ℕ → List ℕ → Bool → Passed Run → Passed Run
turns course zero window last old = old
turns course (suc left) window last old =
    cond (is_going old.stop) (turns course left window last (turn course window last old)) old

-- no window has so many fields
abbrev pub most_turns : ℕ
most_turns = 18446744073709551615

-- a call begins at the window's first byte, with an empty buffer
abbrev pub passed_at_start : {Run : Type 0} → Run → List ℕ → Passed Run
passed_at_start old out = record { run = old; at = 0; put = 0; out = out; stop = Going }

unfoldable pub window_run : {Run : Type 0} → Course Run → Run → List ℕ → Bool → List ℕ → Passed Run
window_run course old window last out =
    turns course most_turns window last (passed_at_start old out)

-- the room in which the lines of so many bytes stand, if each byte of a field brings so many at the
-- most; the last line needs its own room
abbrev pub room_of : ℕ → ℕ → ℕ
room_of each bytes = each * bytes + line_room
