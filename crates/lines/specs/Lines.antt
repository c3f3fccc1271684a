-- The lines that runs print, byte by byte; each ends with a newline. Document 01 has `S`, the byte
-- 83, `Q`, 81, `E` `N` `D`, 69 78 68, and `!`, 33; a controller's run has `G`, 71, and `R`, 82.
-- Definitions only. Assumes nothing.
use Rattle.std.specs.Prelude.{Bool, cond, List, [], ◌∷◌, ◌++◌, ℕ}
use Rattle.lines.specs.Digits.{hex_word, decimal}

abbrev pub blank : ℕ
blank = 32

abbrev pub newline : ℕ
newline = 10

-- each word after a blank
unfoldable pub each_word : List ℕ → List ℕ
each_word [] = []
each_word (word ∷ words) = blank ∷ (hex_word word ++ each_word words)

-- `S`: status and words sent, parted by single blanks
unfoldable pub status_line : ℕ → List ℕ → List ℕ
status_line status words = 83 ∷ blank ∷ (hex_word status ++ (each_word words ++ (newline ∷ [])))

-- `Q`: queue read
unfoldable pub queue_line : ℕ → List ℕ
queue_line word = 81 ∷ blank ∷ (hex_word word ++ (newline ∷ []))

-- `END`: fields taken, decimal
unfoldable pub end_line : ℕ → List ℕ
end_line fields = 69 ∷ 78 ∷ 68 ∷ blank ∷ (decimal fields ++ (newline ∷ []))

-- two numbers behind a letter, decimal
abbrev pub numbers_line : ℕ → ℕ → ℕ → List ℕ
numbers_line letter first second =
    letter ∷ blank ∷ (decimal first ++ (blank ∷ (decimal second ++ (newline ∷ []))))

-- `!`: a refusal's number and the offset of its field's first byte
unfoldable pub refusal_line : ℕ → ℕ → List ℕ
refusal_line number offset = numbers_line 33 number offset

-- ---- a controller's run

-- `G`: the words given, a blank before each
unfoldable pub given_line : List ℕ → List ℕ
given_line words = 71 ∷ (each_word words ++ (newline ∷ []))

-- `R`: the code of a result, and its mark, 0 or 1
unfoldable pub result_line : ℕ → Bool → List ℕ
result_line code mark = numbers_line 82 code (cond mark 1 0)
