-- Document 01's table of tags: the byte of each, and the column "Length". Definitions only.
-- Assumes nothing.
use Rattle.std.specs.Prelude.{Bool, cond, ◌&&◌, Option, Some, None, List, ℕ, ◌%◌, eqb, leb}
use Rattle.recording.specs.declared.tag.Tag.{Tag}
use Rattle.recording.specs.declared.tag.Tag.TheVariants.{
  Setup,
  Word,
  Silence,
  ReadQueue,
  HostWrite,
  MoveTable,
  SetFlags,
}
use Rattle.recording.specs.Bytes.{byte_at}

-- the byte of a word, by which a row of words is looked for
abbrev pub word_tag : ℕ
word_tag = 2

-- the tag that a byte is, and none where it is unknown
unfoldable pub tag_of : ℕ → Option Tag
tag_of byte =
    cond (eqb byte 1) (Some Setup)
    (cond (eqb byte word_tag) (Some Word)
    (cond (eqb byte 3) (Some Silence)
    (cond (eqb byte 4) (Some ReadQueue)
    (cond (eqb byte 5) (Some HostWrite)
    (cond (eqb byte 6) (Some MoveTable)
    (cond (eqb byte 7) (Some SetFlags)
    None))))))

-- the tag at a place
abbrev pub tag_at : List ℕ → ℕ → Option Tag
tag_at bytes place = tag_of (byte_at bytes place)

-- whether a length is the tag's
unfoldable pub length_fits : Tag → ℕ → Bool
length_fits Setup size = eqb size 3
length_fits Word size = eqb size 7
length_fits Silence size = eqb size 5
length_fits ReadQueue size = eqb size 0
length_fits HostWrite size = leb 4 size && leb size 130 && eqb (size % 2) 0  -- 2 + 2k, k 1 to 64
length_fits MoveTable size = eqb size 1
length_fits SetFlags size = eqb size 1
