-- What a writer leaves of the page that it is given: a lent buffer, and the place in it where the
-- next byte goes. Definitions only. Assumes nothing.
use Rattle.std.specs.Prelude.{◌≡◌, Bool, List, ℕ, ◌+◌, ◌-◌, ◌≤◌, leb, length}
use Rattle.lines.specs.Written.{Put, put, stored, written, line_room}
use Rattle.lines.specs.declared.Page.{Page}

-- the next place, and every byte of the buffer
abbrev pub on : Page → Put
on page = put page.at page.out.now

-- the page is over the buffer that it was over, and has what is wanted
pub record Leaves (old new : Page) (wanted : Put) : Type 0 where
  pub same_buffer : new.out.ghost_name ≡ old.out.ghost_name
  pub is_wanted : on new ≡ wanted

-- a text that is given so much room
abbrev pub written_on : ℕ → Page → List ℕ → Put
written_on room page = written room page.out.now page.at

-- a line
abbrev pub line_on : Page → List ℕ → Put
line_on = written_on line_room

-- ---- the parts of a line

-- whether so many bytes are left
abbrev pub has_room : Page → ℕ → Bool
has_room page room = leb room (length page.out.now - page.at)

-- a part of a line is stored, for the functions that are given the room that they need: no more
-- than that room is taken, and the buffer stays as long as it was
pub record Wrote (room : ℕ) (old : Page) (text : List ℕ) (new : Page) : Type 0 where
  pub same_buffer : new.out.ghost_name ≡ old.out.ghost_name
  pub is_stored : on new ≡ stored old.out.now old.at text
  pub as_long : length new.out.now ≡ length old.out.now
  pub fits : new.at ≤ old.at + room
