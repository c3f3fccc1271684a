-- The lines of card memory: every cell that is not zero, rising. Definitions only. Assumes nothing.
use Rattle.std.specs.Prelude.{cond, List, [], ◌∷◌, ◌++◌, ℕ, ◌+◌, eqb}
use Rattle.lines.specs.Digits.{hex_word}
use Rattle.lines.specs.Lines.{blank, newline}

-- address and word
abbrev pub cell_line : ℕ → ℕ → List ℕ
cell_line address word = hex_word address ++ (blank ∷ []) ++ hex_word word ++ (newline ∷ [])

-- a cell that is zero has no line
abbrev pub cell_text : ℕ → ℕ → List ℕ
cell_text address word = cond (eqb word 0) [] (cell_line address word)

-- the lines of a row of words, the first of which stands at this address
unfoldable pub cell_lines : ℕ → List ℕ → List ℕ
cell_lines address [] = []
cell_lines address (word ∷ words) = cell_text address word ++ cell_lines (address + 1) words
