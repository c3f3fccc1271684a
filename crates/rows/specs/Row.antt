-- A row of data words: those on one line, sound and joined, that stand next in some bytes, stored
-- in the cells of a block one after the other. Definitions only. Assumes nothing.
use Rattle.std.specs.Prelude.{
  Bool,
  cond,
  ◌&&◌,
  Option,
  Some,
  None,
  List,
  [],
  ◌∷◌,
  ℕ,
  zero,
  suc,
  ◌+◌,
  ◌-◌,
  ◌*◌,
  leb,
  ltb,
  length,
}
use Rattle.bus.specs.declared.word.Word.{Word}
use Rattle.bus.specs.Word.{word_of}
use Rattle.bus.specs.DataWords.{values_of}
use Rattle.card.specs.Memory.{with_cells}
use Rattle.recording.specs.declared.words.Found.{Found}
use Rattle.recording.specs.Bytes.{time_at}
use Rattle.recording.specs.AsCoded.Found.{word_found}
use Rattle.lines.specs.Written.{line_room}
use Rattle.rows.specs.declared.Row.{Row}
use Rattle.rows.specs.declared.Reach.{Reach}
use Rattle.rows.specs.declared.Taken.{Taken}

-- ---- the words that are found

-- data sync, sound and joined, on a line
abbrev pub marks_on : Bool → ℕ
marks_on line = cond line 13 12

-- the word of such a field
abbrev pub word_there : List ℕ → Bool → ℕ → ℕ → Word
word_there bytes line at value = word_of (marks_on line) value (time_at bytes (at + 6))

-- a word that is found, and what is found behind it
abbrev pub found_then : Option Found → (ℕ → List Word) → List ℕ → Bool → ℕ → List Word
found_then (Some found) rest bytes line at =
    word_there bytes line at found.value ∷ rest found.next
found_then None rest bytes line at = []

-- the data words on a line that stand next, so many at the most
unfoldable pub words_found : ℕ → List ℕ → Bool → ℕ → List Word
words_found zero bytes line at = []
words_found (suc more) bytes line at =
    found_then (word_found bytes at (marks_on line)) (words_found more bytes line) bytes line at

-- ---- they are stored

-- how far a row has come, and the memory
pub record Stored : Type 0 where
  pub reach : Reach
  pub ram : List ℕ

abbrev pub stored : Reach → List ℕ → Stored
stored reach ram = record { reach = reach; ram = ram }

-- some words further on: the field of each has ten bytes
abbrev pub behind : List Word → Row → ℕ → List ℕ → Stored
behind words row at ram =
    stored (record { cell = row.cell + length words; at = at + 10 * length words })
    (with_cells ram row.block row.cell (values_of words))

-- the words that a row takes, as many as are wanted
abbrev pub words_taken : List ℕ → ℕ → Bool → Row → List Word
words_taken bytes at line row = words_found (row.end - row.cell) bytes line at

abbrev pub row_stored : List ℕ → ℕ → Bool → Row → List ℕ → Stored
row_stored bytes at line row ram = behind (words_taken bytes at line row) row at ram

-- ---- they are taken as so many turns

-- after a setup, with room for a line, where more turns are left than a row has words, and if a
-- word is wanted
abbrev pub may_take : Row → Bool → ℕ → ℕ → Bool
may_take row setup room most =
    setup && leb line_room room && ltb row.end most && ltb row.cell row.end

-- what a row leaves, and the memory
pub record RowLeft : Type 0 where
  pub taken : Taken
  pub ram : List ℕ

abbrev pub row_left : Taken → List ℕ → RowLeft
row_left taken ram = record { taken = taken; ram = ram }

-- of so many words, each a turn
abbrev pub taken_as : ℕ → ℕ → Stored → RowLeft
taken_as words most new =
    row_left (record {
      words = words;
      cell = new.reach.cell;
      at = new.reach.at;
      left = most - words;
    }) new.ram

-- words are taken, or nothing is
unfoldable pub row_taken : List ℕ → ℕ → Bool → Bool → ℕ → ℕ → Row → List ℕ → RowLeft
row_taken bytes at line setup room most row ram =
    cond (may_take row setup room most)
    (taken_as (length (words_taken bytes at line row)) most (row_stored bytes at line row ram))
    (row_left (record { words = 0; cell = row.cell; at = at; left = most }) ram)
