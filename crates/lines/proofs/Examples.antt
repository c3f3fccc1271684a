-- What no run shows, by computation: the largest number, and buffers without room. The other worked
-- cases are rows of `vectors`. Assumes nothing.
use mathlib.Core.Path.{◌≡◌, refl}
use mathlib.Core.List.{List, [], ◌∷◌, ◌++◌}
use Prim.Native.Nat.{ℕ}
use lib.ListN.{replicate}
use Rattle.lines.specs.Digits.{hex_digit, hex_byte, hex_word, decimal_by, decimal}
use Rattle.lines.specs.Lines.{queue_line}
use Rattle.lines.specs.Written.{
  put,
  stored,
  written,
  line_room,
  line_written,
  status_written,
}

-- `18446744073709551615`
the_largest_number :
    decimal 18446744073709551615
    ≡ 49 ∷ 56 ∷ 52 ∷ 52 ∷ 54 ∷ 55 ∷ 52 ∷ 52 ∷ 48 ∷ 55
    ∷ 51 ∷ 55 ∷ 48 ∷ 57 ∷ 53 ∷ 53 ∷ 49 ∷ 54 ∷ 49 ∷ 53 ∷ []
unfolding decimal decimal_by
the_largest_number = refl

-- ---- the buffer

zeros : ℕ → List ℕ
zeros count = replicate count 0

-- a line at the start of a buffer that just has room; two digits in the middle of one
where_there_is_room :
    line_written (zeros line_room) 0 (queue_line 0x8002)
    ∷ written 2 (1 ∷ 2 ∷ 3 ∷ 4 ∷ []) 1 (hex_byte 0x0F)
    ∷ []
    ≡ put 7 (queue_line 0x8002 ++ zeros 161)
    ∷ put 3 (1 ∷ 48 ∷ 70 ∷ 4 ∷ [])
    ∷ []
unfolding zeros written stored queue_line hex_word hex_byte hex_digit
where_there_is_room = refl

-- the same line one byte on; a word past the end; a line of 33 words
where_there_is_none :
    line_written (zeros line_room) 1 (queue_line 0x8002)
    ∷ written 4 (1 ∷ 2 ∷ []) 9 (hex_word 0xABCD)
    ∷ status_written (zeros 200) 0 0x2800 (replicate 33 0x1111)
    ∷ []
    ≡ put 1 (zeros line_room)
    ∷ put 9 (1 ∷ 2 ∷ [])
    ∷ put 0 (zeros 200)
    ∷ []
unfolding zeros written status_written
where_there_is_none = refl
