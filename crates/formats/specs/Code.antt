-- The format codes of document 001's table: bits 2 to 0 are the row, bit 3 is X, broadcast, which
-- rows 0, 2, 3 and 4 alone may have. Definitions only. Assumes nothing.
use Rattle.std.specs.Prelude.{Bool, true, false, List, [], ◌∷◌, ℕ, get_or, Option, Some, None}
use Rattle.formats.specs.declared.row.Row.{Row}
use Rattle.formats.specs.declared.row.Row.TheVariants.{
  ToTerminal,
  FromTerminal,
  Between,
  ModeAlone,
  ModeWithWord,
  ModeForWord,
}
use Rattle.formats.specs.declared.code.Coded.{Coded}

-- to one station, or to all
abbrev alone : Bool
alone = false

abbrev broadcast : Bool
broadcast = true

-- a code of the table: its row, and whether it is to all
abbrev pub format : Row → Bool → Option Coded
format row to_all = Some (record { row = row; broadcast = to_all })

-- a code that the table lacks
abbrev pub lacking : Option Coded
lacking = None

-- code by code
unfoldable pub code_table : List (Option Coded)
code_table =
    format ToTerminal alone  --  0  0000
    ∷ format FromTerminal alone  --  1  0001
    ∷ format Between alone  --  2  0010
    ∷ format ModeAlone alone  --  3  0011
    ∷ format ModeWithWord alone  --  4  0100
    ∷ format ModeForWord alone  --  5  0101
    ∷ lacking  --  6  0110
    ∷ lacking  --  7  0111
    ∷ format ToTerminal broadcast  --  8  1000
    ∷ lacking  --  9  1001
    ∷ format Between broadcast  -- 10  1010
    ∷ format ModeAlone broadcast  -- 11  1011
    ∷ format ModeWithWord broadcast  -- 12  1100
    ∷ []  -- 13 to 15 are lacking

unfoldable pub coded_by : ℕ → Option Coded
coded_by code = get_or code_table code lacking
