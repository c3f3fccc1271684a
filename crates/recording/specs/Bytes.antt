-- Numbers that stand in a list of bytes, high byte first. Past the end there is no byte, and 0
-- stands for it. Definitions only. Assumes nothing.
use Rattle.std.specs.Prelude.{
  cond,
  ◌&&◌,
  List,
  [],
  ◌∷◌,
  ℕ,
  zero,
  suc,
  ◌+◌,
  ◌-◌,
  ◌*◌,
  leb,
  length,
  get_or,
}
use Rattle.std.proofs.lemmas.List.Edits.{sets}

-- how many bytes stand from a place on
abbrev pub bytes_left : List ℕ → ℕ → ℕ
bytes_left bytes place = length bytes - place

abbrev pub byte_at : List ℕ → ℕ → ℕ
byte_at bytes place = get_or bytes place 0

abbrev pub word_at : List ℕ → ℕ → ℕ
word_at bytes place = byte_at bytes place * 256 + byte_at bytes (place + 1)

abbrev pub time_at : List ℕ → ℕ → ℕ
time_at bytes place = word_at bytes place * 65536 + word_at bytes (place + 2)

-- so many words, from a first place on
abbrev pub words_at : List ℕ → ℕ → ℕ → List ℕ
words_at bytes first zero = []
words_at bytes first (suc count) = word_at bytes first ∷ words_at bytes (first + 2) count

-- the words of a field that writes: 64 at the most
abbrev pub most_written : ℕ
most_written = 64

-- memory with so many of them written from an address on, where all are there
unfoldable pub with_written : List ℕ → ℕ → List ℕ → ℕ → ℕ → List ℕ
with_written ram address bytes first count =
    cond (leb count most_written && leb (2 * count) (bytes_left bytes first))
    (sets ram address (words_at bytes first count))
    ram
