-- What a writer leaves of the buffer that it is lent. Definitions only. Assumes nothing.
use Rattle.std.specs.Prelude.{cond, List, ℕ, ◌+◌, ◌-◌, leb, length}
use Rattle.std.proofs.lemmas.List.Edits.{sets}
use Rattle.lines.specs.Lines.{status_line, given_line}

-- where the next byte goes, and every byte of the buffer
pub record Put : Type 0 where
  pub next : ℕ
  pub bytes : List ℕ

abbrev pub put : ℕ → List ℕ → Put
put next bytes = record { next = next; bytes = bytes }

-- a text stored from `at` on, all other bytes as they were
unfoldable pub stored : List ℕ → ℕ → List ℕ → Put
stored out at text = put (at + length text) (sets out at text)

-- a text that is given so much room: where fewer bytes are left from `at` on, nothing is written
unfoldable pub written : ℕ → List ℕ → ℕ → List ℕ → Put
written room out at text = cond (leb room (length out - at)) (stored out at text) (put at out)

-- the room that each line is given: the longest, a status and 32 words, has 167 bytes
abbrev pub line_room : ℕ
line_room = 168

-- a line that is given this room
abbrev pub line_written : List ℕ → ℕ → List ℕ → Put
line_written = written line_room

-- the words that a message sends at the most
abbrev pub most_words : ℕ
most_words = 32

-- a status line: of more words than that, nothing is written
unfoldable pub status_written : List ℕ → ℕ → ℕ → List ℕ → Put
status_written out at status words =
    cond (leb (length words) most_words) (line_written out at (status_line status words))
    (put at out)

-- the words that a message gives at the most: a command and those
abbrev pub most_given : ℕ
most_given = 33

-- a line of words given: of more words than that, nothing is written
unfoldable pub given_written : List ℕ → ℕ → List ℕ → Put
given_written out at words =
    cond (leb (length words) most_given) (line_written out at (given_line words)) (put at out)
