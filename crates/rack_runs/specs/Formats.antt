-- A message of each format code of document 001's table, as data, and what is seen behind it. The
-- terminals are stations 5 and 9; the data words that they send are AAAA, BBBB and CCCC, DDDD.
-- Definitions only. Assumes nothing.
use Rattle.std.specs.Prelude.{Bool, true, false, List, [], ◌∷◌, map, ℕ, Option}
use Rattle.formats.specs.declared.row.Row.{Row}
use Rattle.formats.specs.declared.row.Row.TheVariants.{
  ToTerminal,
  FromTerminal,
  Between,
  ModeAlone,
  ModeWithWord,
  ModeForWord,
}
use Rattle.controller.specs.State.{came}
use Rattle.controller.specs.declared.state.Came.{Came}

-- a terminal that takes a command of the message: its station, and the data words in its block
pub record End : Type 0 where
  pub station : ℕ
  pub words : List ℕ

abbrev pub end_of : ℕ → List ℕ → End
end_of station words = record { station = station; words = words }

-- what is seen behind a message: the result; whether nobody has a message open; the data words at
-- the controller, and at the other ends; the last command of each terminal, 0 for none; the last
-- word of each memory, the controller's first
pub record Seen : Type 0 where
  pub result : Option Came
  pub idle : Bool
  pub words : List ℕ
  pub ends : List End
  pub lasts : List ℕ
  pub elsewhere : List ℕ

-- code 0, all idle, the same words at all ends, the last commands, and other words elsewhere
abbrev pub carried : List ℕ → List ℕ → List ℕ → Seen
carried words stations lasts =
    record {
      result = came 0 false;
      idle = true;
      words = words;
      ends = map (λ (station : ℕ). end_of station words) stations;
      lasts = lasts;
      elsewhere = 12 ∷ 5 ∷ 9 ∷ [];
    }

-- the format code with its row and X, the words of the controller's block from cell 0 on, and what
-- is seen behind the message
pub record Case : Type 0 where
  pub code : ℕ
  pub row : Row
  pub broadcast : Bool
  pub cells : List ℕ
  pub seen : Seen

abbrev pub case : ℕ → Row → Bool → List ℕ → Seen → Case
case code row broadcast cells seen =
    record { code = code; row = row; broadcast = broadcast; cells = cells; seen = seen }

-- to one station, or to all
abbrev alone : Bool
alone = false

abbrev all : Bool
all = true

-- ---- data words, two of subaddress 3

unfoldable pub to_five : Case
to_five =
    case 0 ToTerminal alone (0x2862 ∷ 0x1111 ∷ 0x2222 ∷ [])
    (carried (0x1111 ∷ 0x2222 ∷ []) (5 ∷ []) (0x2862 ∷ 0 ∷ []))

unfoldable pub from_nine : Case
from_nine =
    case 1 FromTerminal alone (0x4C62 ∷ [])
    (carried (0xCCCC ∷ 0xDDDD ∷ []) (9 ∷ []) (0 ∷ 0x4C62 ∷ []))

unfoldable pub nine_to_five : Case
nine_to_five =
    case 2 Between alone (0x2862 ∷ 0x4C62 ∷ [])
    (carried (0xCCCC ∷ 0xDDDD ∷ []) (5 ∷ 9 ∷ []) (0x2862 ∷ 0x4C62 ∷ []))

unfoldable pub to_all : Case
to_all =
    case 8 ToTerminal all (0xF862 ∷ 0x1111 ∷ 0x2222 ∷ [])
    (carried (0x1111 ∷ 0x2222 ∷ []) (5 ∷ 9 ∷ []) (0xF862 ∷ 0xF862 ∷ []))

unfoldable pub nine_to_all : Case
nine_to_all =
    case 10 Between all (0xF862 ∷ 0x4C62 ∷ [])
    (carried (0xCCCC ∷ 0xDDDD ∷ []) (5 ∷ 9 ∷ []) (0xF862 ∷ 0x4C62 ∷ []))

-- ---- mode codes: 1 synchronize, 17 synchronize with data word, 16 transmit vector word

unfoldable pub synchronize_five : Case
synchronize_five =
    case 3 ModeAlone alone (0x2C01 ∷ [])
    (carried [] (5 ∷ []) (0x2C01 ∷ 0 ∷ []))

unfoldable pub word_to_nine : Case
word_to_nine =
    case 4 ModeWithWord alone (0x4811 ∷ 0x3333 ∷ [])
    (carried (0x3333 ∷ []) (9 ∷ []) (0 ∷ 0x4811 ∷ []))

unfoldable pub vector_of_five : Case
vector_of_five =
    case 5 ModeForWord alone (0x2C10 ∷ [])
    (carried (0xAAAA ∷ []) (5 ∷ []) (0x2C10 ∷ 0 ∷ []))

unfoldable pub synchronize_all : Case
synchronize_all =
    case 11 ModeAlone all (0xFC01 ∷ [])
    (carried [] (5 ∷ 9 ∷ []) (0xFC01 ∷ 0xFC01 ∷ []))

unfoldable pub word_to_all : Case
word_to_all =
    case 12 ModeWithWord all (0xF811 ∷ 0x3333 ∷ [])
    (carried (0x3333 ∷ []) (5 ∷ 9 ∷ []) (0xF811 ∷ 0xF811 ∷ []))

-- ---- all of them, by their codes

abbrev pub ten_formats : List Case
ten_formats =
    to_five
    ∷ from_nine
    ∷ nine_to_five
    ∷ synchronize_five
    ∷ word_to_nine
    ∷ vector_of_five
    ∷ to_all
    ∷ nine_to_all
    ∷ synchronize_all
    ∷ word_to_all
    ∷ []

-- to unfold `cases` is to unfold each
unfoldable pub cases : ℕ
unfolding to_five from_nine nine_to_five synchronize_five word_to_nine vector_of_five to_all
    nine_to_all synchronize_all word_to_all
cases = 0
