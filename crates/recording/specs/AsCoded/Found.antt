-- A word field that is looked for by its marks, as in a row of data words. Definitions only.
-- Assumes nothing.
use Rattle.std.specs.Prelude.{Bool, cond, ◌&&◌, Option, Some, None, List, ℕ, ◌+◌, eqb, leb}
use Rattle.recording.specs.declared.words.Found.{Found}
use Rattle.recording.specs.Bytes.{bytes_left, byte_at, word_at}
use Rattle.recording.specs.Tag.{word_tag}

-- the tag of a word, length 7 and these marks
abbrev pub starts_word : List ℕ → ℕ → ℕ → Bool
starts_word bytes place marks =
    eqb (byte_at bytes place) word_tag
    && eqb (byte_at bytes (place + 1)) 0 && eqb (byte_at bytes (place + 2)) 7
    && eqb (byte_at bytes (place + 3)) marks

abbrev pub found : ℕ → ℕ → Found
found value next = record { value = value; next = next }

-- its value and where the next field begins, where it stands whole at the place
unfoldable pub word_found : List ℕ → ℕ → ℕ → Option Found
word_found bytes place marks =
    cond (leb 10 (bytes_left bytes place) && starts_word bytes place marks)
    (Some (found (word_at bytes (place + 4)) (place + 10)))
    None
