-- What no recording shows, by computation: numbers that no byte is, a place past the end, pieces,
-- words that are not written. The other worked cases are rows of `vectors`. Assumes nothing.
use mathlib.Core.Path.{◌≡◌, refl}
use mathlib.Core.Bool.{true, false}
use mathlib.Core.List.{List, [], ◌∷◌, ◌++◌}
use Prim.Native.Nat.{ℕ}
use lib.ListN.{replicate, take, drop}
use Rattle.recording.specs.Bytes.{with_written}
use Rattle.recording.specs.Tag.{tag_of, length_fits}
use Rattle.recording.specs.Field.{field_at}
use Rattle.recording.specs.Seen.{nothing_seen, setup_seen}
use Rattle.recording.specs.Reading.{End, Refused, read_at}
use Rattle.recording.specs.AsCoded.Pieces.{is_settled, shifted}

-- a setup, and the command of document 01's run
abbrev setup : List ℕ
setup = 0x01 ∷ 0x00 ∷ 0x03 ∷ 0x05 ∷ 0x01 ∷ 0x00 ∷ []

abbrev command : List ℕ
command = 0x02 ∷ 0x00 ∷ 0x07 ∷ 0x06 ∷ 0x28 ∷ 0x62 ∷ 0x00 ∷ 0x00 ∷ 0x00 ∷ 0x28 ∷ []

-- ---- no byte is 256 or 300, and no test asks for bytes

-- 2: the station, before the table block; 3: the table block, before the flags
a_setup_with_table_block_300 :
    read_at (0x01 ∷ 0x00 ∷ 0x03 ∷ 0x1F ∷ 300 ∷ 0x00 ∷ []) 0 nothing_seen
    ∷ read_at (0x01 ∷ 0x00 ∷ 0x03 ∷ 0x1E ∷ 300 ∷ 0x40 ∷ []) 0 nothing_seen
    ∷ []
    ≡ Refused 2 0 ∷ Refused 3 0 ∷ []
unfolding read_at tag_of length_fits field_at
a_setup_with_table_block_300 = refl

table_block_256_is_refused : read_at (0x06 ∷ 0x00 ∷ 0x01 ∷ 256 ∷ []) 0 setup_seen ≡ Refused 3 0
unfolding read_at tag_of length_fits field_at
table_block_256_is_refused = refl

-- ---- piece by piece

-- a word waits for its last byte; an unknown tag waits for nothing
what_waits_for_bytes :
    is_settled (read_at (take 9 command) 0 setup_seen)
    ∷ is_settled (read_at (0x08 ∷ []) 0 setup_seen)
    ∷ []
    ≡ false ∷ true ∷ []
unfolding read_at tag_of length_fits field_at
what_waits_for_bytes = refl

reading_on :
    read_at (setup ++ command) 6 setup_seen
    ≡ shifted 4 (read_at (drop 4 (setup ++ command)) 2 setup_seen)
unfolding read_at tag_of length_fits field_at
reading_on = refl

-- ---- past the end

past_the_end : read_at (setup ++ command) 1000 setup_seen ≡ End
unfolding read_at tag_of length_fits field_at
past_the_end = refl

-- two words of which the second is cut off, and 65 words
words_that_are_not_written :
    with_written (1 ∷ 2 ∷ []) 0 (0x11 ∷ 0x11 ∷ 0x22 ∷ []) 0 2
    ∷ with_written (1 ∷ 2 ∷ []) 0 (replicate 130 0) 0 65
    ∷ []
    ≡ replicate 2 (1 ∷ 2 ∷ [])
unfolding with_written
words_that_are_not_written = refl
